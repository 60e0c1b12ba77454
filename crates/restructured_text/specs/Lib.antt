-- What the RST parsers promise: document 01, "`restructured_text.rs`".
--
-- Each definition, and the public function whose contract is an equation with it, on every input and every scratch:
--   Transform    text_of                   transform::rst_escaped_link_text_transform         an escaped character for itself
--                destination_of            transform::rst_escaped_link_destination_transform  blanks dropped, then unescaped
--   Text2target  text2target_of            text2target::rst_parse_text2target                 a text and a target in brackets, raw
--   Label        simple_label_of           label::rst_parse_simple_label                      a simple label, raw
--                parse_text2label_of       label::rst_parse_text2label                        a reference, raw
--   Inline       text2dest_of              inline::rst_text2dest                              an anonymous embedded link
--                text_label2dest_of        inline::rst_text_label2dest                        a named embedded link
--                text2label_of             inline::rst_text2label                             a reference
--   Block        block_of                  block::rst_explicit_markup_block                   a block's text
--   Target       parse_label2target_of     target::rst_parse_label2target                     name and target in that text, raw
--                label2target_of           target::rst_label2target                           a target block
--                label2dest_of             target::rst_label2dest                             one with a destination
--                label2label_of            target::rst_label2label                            one with an alias
--                both of these             target::rst_target                                 one with either, read once (Definition)
--                starts_target             target::starts_target                              what starts a target: `.. _`, or `__ `
--   Transform    is_destination_escapable  transform::is_destination_escapable                what may be escaped in a destination
--   Strings      part                      Span::of                                           the bytes that a span names
-- Delimited says what a part between two tags is. Strings says what an answer means with the scratch as the parser left it, and
-- that a scratch as long as the input is enough and is asked for; the strings then end within as many bytes of it as are consumed
-- (Ends, part of each contract). Inner is what the contracts of private functions speak of.
--
-- Laws, proved in the file of proofs/ that is named, for the layers above:
--   consumed     at least one byte and at most all of the input, spans inside, strings no longer than that: Text2targetLaws
--                text2target-apart; LabelLaws simple-standing, reference-placed; InlineLaws text2dest-consumed,
--                text-label2dest-consumed, text2label-consumed; BlockLaws block-consumed; TargetLaws parse-apart,
--                label2target-consumed, label2dest-consumed, label2label-consumed; TransformLaws text-le, destination-le
--   scratch      no definition says that there is no room: InlineLaws text2dest-room, text-label2dest-room, text2label-room;
--                BlockLaws block-scratch; TargetLaws label2target-room, label2dest-room, label2label-room; StringsLaws lent-enough: one
--                as long as the input is enough
--   parts        of a text, and where some bytes of it are replaced: PartLaws part-append, part_length, part-front, put-here,
--                put-before, put-after, put-length; StringsLaws reach: how far it is from a span's start to its end, as the code says it;
--                DelimitedLaws delimited-is: a part between tags that is taken has them
--   one of two   a block is no alias and destination at once: TargetLaws alias-or-destination, destination-or-alias
--   none         where no backticked run begins there is no inline form: InlineLaws text2dest-refused, text-label2dest-refused,
--                text2label-refused; DelimitedLaws backticked-other: another byte than a backtick begins no run; where the run that
--                begins has no <, or two, or no > at its end, there is no embedded link: InlineLaws embedded-unbracketed,
--                embedded-opened, embedded-unangled; and where
--                there is none with more text before it, there is none: embedded-longer; TargetLaws no_target, no-label,
--                no-destination: where neither `.. _` nor `__ ` starts there is no target
--   step by step what a definition says by the tests it makes, for places without targets: BlockLaws start-taken, start-refused, start_is,
--                block_none, block-no-line, block-taken: a block's start and first line; cut-none, further-none, lines_end, lines-further: its
--                further lines; DelimitedLaws delimited-taken, delimited-none, delimited-unclosed, delimited-refused: a part between tags;
--                LabelLaws raw-quoted, raw_word, word-one, word_two, word_none, simple-named, simple-none, simple-empty, simple-long: a simple label;
--                TargetLaws name-quoted, name-plain, plain-named, plain-none, parse-none: a name; raw-is, raw-all: a raw target;
--                named_none, named-refused, anonymous-refuses: a target that is none; TransformLaws kept_byte, kept-alone, kept_pair,
--                kept-wrong: whether a destination is refused (is_refused of Inner), by its first bytes; destination-dead: then the transform refuses it
--   calm         where no _ and no backtick stands before white space or the end (Calm) no inline form is found: CalmLaws calm-text2dest,
--                calm-text-label2dest, calm-text2label; before LF or the end no target either: calm-label2dest, calm-label2label;
--                calm-drop: what is behind in it is calm too; void-text2label: no reference begins at a byte that is no backtick and begins no
--                word
--   appending    on s ++ 10 ∷ t, for `Tail t`: Text2targetLaws text2target-lf; LabelLaws simple-lf, reference-lf; InlineLaws
--                text2dest-lf, text-label2dest-lf, text2label-lf; for `Tail t` and `Body s`: BlockLaws block-lf; TargetLaws
--                label2target-lf, label2dest-lf, label2label-lf
pub mod Transform
pub mod Delimited
pub mod Text2target
pub mod Label
pub mod Spans
pub mod Strings
pub mod Inline
pub mod Block
pub mod Target
pub mod Definition
pub mod Calm
pub mod Inner
