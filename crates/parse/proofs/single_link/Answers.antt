-- `single_link` meets its contract: each refusal is that of the definition, in its order. The scratch is as long as the longest
-- document, so that the scanner has room, and the strings of a link stand within it.
-- Assumes nothing.
use Rattle.std.proofs.Common.{◌≡◌, Err, true, false, sym, ap, subst, ◌∙◌, length, arith, rules}
use Rattle.parse.specs.Link.{Ends}
use Rattle.parse.specs.declared.refusal.Refusal.TheVariants.{NoLink}
use Rattle.parse.specs.Single.{document_len_max, outcome_of}
use Rattle.parse.proofs.SingleLaws.{place-le, single-long, single-outside, single-unplaced, single-scanned, scan-answered, handed-none, link-within, mapped, unmapped}
use Rattle.parse.proofs.single_link.Goals as goal

pub returns-then-document-gt-DOCUMENT_LEN_MAX-clause-outcome : goal.returns-then-document-gt-DOCUMENT_LEN_MAX-clause-outcome
returns-then-document-gt-DOCUMENT_LEN_MAX-clause-outcome c = single-long _ _ _ _ c.if-document-gt-DOCUMENT_LEN_MAX.true

pub returns-in-Some-clause-outcome : goal.returns-in-Some-clause-outcome
returns-in-Some-clause-outcome c =
    single-outside _ _ _ _ c.if-document-gt-DOCUMENT_LEN_MAX.false _ (sym c.first_outside.ensures ∙ c.in-Some.is)

pub returns-then-not-is_place-clause-outcome : goal.returns-then-not-is_place-clause-outcome
returns-then-not-is_place-clause-outcome c =
    let p : c.is_place.result ≡ false = search rules in
    single-unplaced _ _ _ _ c.if-document-gt-DOCUMENT_LEN_MAX.false (sym c.first_outside.ensures ∙ c.in_default.is) (sym c.is_place.ensures ∙ p)

pub slice_bounds-take_link-count : goal.slice_bounds-take_link-count
slice_bounds-take_link-count c =
    let p : c.is_place.result ≡ true = search rules in
    place-le _ _ (sym p ∙ c.is_place.ensures)

pub slice_bounds-take_link-start : goal.slice_bounds-take_link-start
slice_bounds-take_link-start c =
    let p : c.is_place.result ≡ true = search rules in
    place-le _ _ (sym p ∙ c.is_place.ensures)

pub hand_over-requires : goal.hand_over-requires
hand_over-requires c =
    let w = c.args in
    let x = mapped _ _ _ c.map_err.ensures.cases c.map_err.ensures.variant c.in_ok-x.was in
    let e = scan-answered w.document.now w.place document_len_max _ _ _ c.if-document-gt-DOCUMENT_LEN_MAX.false c.take_link.ensures.scan x in
    link-within w.document.now w.place c.take_link.new.scratch (length c.take_link.new.scratch) c.in_ok-x.x (omega (arith, c.if-document-gt-DOCUMENT_LEN_MAX.false, c.take_link.auto.scratch)) e (subst Ends x c.take_link.ensures.ends)

pub returns-clause-outcome : goal.returns-clause-outcome
returns-clause-outcome c =
    let w = c.args in
    let p : c.is_place.result ≡ true = search rules in
    let x = mapped _ _ _ c.map_err.ensures.cases c.map_err.ensures.variant c.in_ok-x.was in
    let e = scan-answered w.document.now w.place document_len_max _ _ _ c.if-document-gt-DOCUMENT_LEN_MAX.false c.take_link.ensures.scan x in
    single-scanned _ _ _ _ c.if-document-gt-DOCUMENT_LEN_MAX.false _ _ (sym c.first_outside.ensures ∙ c.in_default.is) (sym c.is_place.ensures ∙ p) e c.hand_over.ensures.outcome

pub returns-in_err-x-clause-outcome : goal.returns-in_err-x-clause-outcome
returns-in_err-x-clause-outcome c =
    let w = c.args in
    let p : c.is_place.result ≡ true = search rules in
    let x = unmapped _ _ c.map_err.ensures.variant c.in_err-x.was in
    let r : c.from_residual.result ≡ Err NoLink = search rules in
    let e = scan-answered w.document.now w.place document_len_max _ _ _ c.if-document-gt-DOCUMENT_LEN_MAX.false c.take_link.ensures.scan x.1 in
    single-scanned _ _ _ _ c.if-document-gt-DOCUMENT_LEN_MAX.false _ _ (sym c.first_outside.ensures ∙ c.in_default.is) (sym c.is_place.ensures ∙ p) e (ap (λ z. outcome_of z w.first.now w.second.now) r ∙ handed-none x.0 _ _ _)
