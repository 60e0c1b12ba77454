-- What an answer is by its variant, and what `ok_or` and `?` make of one.
-- Assumes nothing.
use Rattle.std.proofs.Common.{◌≡◌, Option, Some, None, Result, Ok, Err, IsErr, refl, ap, subst}
use Rattle.std.specs.Option.{ok_or}
use Rattle.std.specs.Result.{IsErrAnd}

-- an answer by its variant, and then by what the variant holds
pub ok-is : {X E : Type 0} {r : Result X E} (a : X) {b : X} → r ≡ Ok a → a ≡ b → r ≡ Ok b
ok-is {r = r} a f g = subst (λ x. r ≡ Ok x) g f

-- what `x.ok_or(e)?` goes on with
pub ok_or-some : {X E : Type 0} (x : Option X) (e : E) {o : Result X E} {a : X} → o ≡ ok_or x e → o ≡ Ok a → x ≡ Some a
ok_or-some (Some b) e i w = cc
ok_or-some None e i w = cc

-- that there was nothing, where it returns, and what it returns
pub ok_or-none :
    {X Y E : Type 0} (x : Option X) (e : E) {o : Result X E} {d : E} (r : Result Y E) → o ≡ ok_or x e → o ≡ Err d
    → IsErr r × IsErrAnd r (λ y. y ≡ d) → (x ≡ None) × (r ≡ Err e)
ok_or-none (Some b) e r i w h = absurd (cc)
ok_or-none None e (Ok y) i w h = absurd h.1
ok_or-none None e (Err y) i w h = (refl, cc (h.1))

-- what a `?` returns of an error
pub err-left : {Y E : Type 0} (r : Result Y E) {d : E} → IsErr r × IsErrAnd r (λ y. y ≡ d) → r ≡ Err d
err-left (Ok y) h = absurd h.1
err-left (Err y) h = ap Err h.1
