-- What was added under one name of a text was added under another.
use Rattle.std.proofs.Common.{◌≡◌, subst}
use Rattle.outs.specs.Texts.{Text}

pub same : {S : Type 0} (R : S → Text → S → Type 0) {a b : S} {x y : Text} → x ≡ y → R a x b → R a y b
same R {a} {b} e h = subst (λ t. R a t b) e h
