-- What tells keys apart is reflexive, symmetric and transitive: they are the same where one or two numbers of them are.
use Rattle.std.specs.Prelude.{◌≡◌, ℕ, Bool, true, ◌&&◌, ◌==◌}
use Rattle.std.specs.Cmp.{IsEquivalence, partial_equiv_from_equiv, on_equiv, and_equiv, nat_eq_equiv}
use Rattle.std.proofs.Common.{◌∙◌}
use Rattle.rows.specs.Keys.{same_test, same_lane}

-- equal in two numbers
by_pair : {K : Type 0} (a b : K → ℕ) → IsEquivalence (λ k l. a k == a l && b k == b l)
by_pair a b = and_equiv (on_equiv a nat_eq_equiv) (on_equiv b nat_eq_equiv)

pub test_equiv : IsEquivalence same_test
test_equiv = by_pair (λ k. k.binary) (λ k. k.test)

pub lane_equiv : IsEquivalence same_lane
lane_equiv = by_pair (λ k. k.0) (λ k. k.1)

module _ {K : Type 0} {same : K → K → Bool} (equal : IsEquivalence same) where
  pub turned : (k l : K) → same k l ≡ true → same l k ≡ true
  turned k l e = equal.symm l k ∙ e

  pub chained : (k l m : K) → same k l ≡ true → same l m ≡ true → same k m ≡ true
  chained = (partial_equiv_from_equiv equal).trans
