-- Texts one behind the other, and the two passes: the first counts, the second writes.
use Rattle.std.proofs.Common.{◌≡◌, ℕ, List, [], length, Some, None, Ok, Err, refl, ap, append_assoc, append-nil, arith}
use Rattle.refusal.specs.declared.Refusal.TheVariants.{Unwritable}
use Rattle.outs.specs.Texts.{Text, ◌+?◌}
use Rattle.outs.specs.Outs.{Filled, Counted, Answered}

pub assoc : (x y z : Text) → x +? y +? z ≡ x +? (y +? z)
assoc (Some x) (Some y) (Some z) = ap Some (append_assoc x y z)
assoc (Some x) (Some y) None = refl
assoc (Some x) None z = refl
assoc None y z = refl

pub then_nothing : (x : Text) → x +? Some [] ≡ x
then_nothing (Some x) = ap Some (append-nil x)
then_nothing None = refl

pub nothing_then : (x : Text) → Some [] +? x ≡ x
nothing_then (Some x) = refl
nothing_then None = refl

pub refused : (x : Text) (was : List ℕ) → Counted (Some (length was)) x None → Answered x (Err Unwritable) was was
refused (Some x) was c = (refl, c, refl)
refused None was c = (refl, refl)

pub done : (x : Text) (m at : ℕ) (was is : List ℕ) → Counted (Some (length was)) x (Some m) → Filled was 0 x is at → Answered x (Ok at) was is
done (Some x) m at was is c f =
    let h = f (omega (arith, c)) in
    (omega (arith, h.0), h.2, h.3)
done None m at was is c f = absurd (cc)
