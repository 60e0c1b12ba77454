-- The worked cases hold: both sides of each fact compute to the same list.
-- Assumes nothing.
use mathlib.Core.Path.{◌≡◌, refl}
use mathlib.Core.List.{List, map}
use Rattle.rst_bytes.specs.Domain.{is_pair, char_of, run, outside_of}
use Rattle.rst_bytes.specs.Word.{is_ascii_word, is_word, in_ranges, word_ranges, word_of}
use Rattle.rst_bytes.specs.Trim.{is_blank, blanks, trim_of}
use Rattle.rst_bytes.specs.Escaped.{is_escapable, is_stop, taking, escaped_of}
use Rattle.rst_bytes.specs.Line.{line_ending_of, line_from, is_space, is_multispace, bytes_from, space1_of}
use Rattle.rst_bytes.specs.Tag.{starts_with}
use Rattle.restructured_text.specs.Transform.{reading, gives, is_destination_escapable, unblank, text_of, destination_of}
use Rattle.restructured_text.specs.Delimited.{delimited_of, ends_with}
use Rattle.restructured_text.specs.Text2target.{target_of, inside_of, text2target_of}
use Rattle.restructured_text.specs.Label.{word_label_of, raw_label_of, simple_label_of, form_of, parse_text2label_of}
use Rattle.restructured_text.specs.Inline.{text2dest_of, text_label2dest_of, text2label_of}
use Rattle.restructured_text.specs.Block.{start_of, cut_of, further_of, lines_of, block_of}
use Rattle.restructured_text.specs.Target.{plain_name_of, name_of, rest_of, excluded, parse_label2target_of, named_of, anonymous_of, label2target_of, label2dest_of, label2label_of}
use Rattle.parse.specs.Scan.{is_opening, opening_of, inline_at, is_start, passed_of, text_round, blank_round, line_round, round_of, rounds, scan_with, scan_of}
use Rattle.parse.specs.Single.{Outcome, is_place, single_of}
use Rattle.parse.specs.Cases.{times, Case, outcome, expected, worked, readings}

-- the outcomes of a list's calls; its line names all that computing them goes through, and whoever unfolds it unfolds that
unfoldable pub outcomes : List Case → List Outcome
unfolding is_pair char_of run outside_of is_ascii_word is_word in_ranges word_ranges word_of is_blank blanks trim_of is_escapable is_stop taking escaped_of line_ending_of line_from is_space is_multispace bytes_from space1_of starts_with reading gives is_destination_escapable unblank text_of destination_of delimited_of ends_with target_of inside_of text2target_of word_label_of raw_label_of simple_label_of form_of parse_text2label_of text2dest_of text_label2dest_of text2label_of start_of cut_of further_of lines_of block_of plain_name_of name_of rest_of excluded parse_label2target_of named_of anonymous_of label2target_of label2dest_of label2label_of is_opening opening_of inline_at is_start passed_of text_round blank_round line_round round_of rounds scan_with scan_of is_place single_of times
outcomes cases = map outcome cases

worked-hold : outcomes worked ≡ map expected worked
unfolding outcomes
worked-hold = refl

readings-hold : outcomes readings ≡ map expected readings
unfolding outcomes
readings-hold = refl
