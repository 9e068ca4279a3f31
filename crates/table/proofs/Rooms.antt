-- Where a row finds a place.
use Rattle.std.proofs.Common.{◌≡◌, ℕ, ◌<◌, ◌≤◌, Bool, true, false, ◌||◌, ltb, List, length, min, take, ap, inl, inr, arith}
use Rattle.std.proofs.lemmas.List.{length-take}
use Rattle.std.proofs.lemmas.Bool.{cases_Bool, or_left, or_right, or_from, lt-ltb, le-ltb}
use Rattle.table.specs.Count.{cnt, has, cut}
use Rattle.table.specs.Held.{listed, room}
use Rattle.table.specs.Keyed.{most, Single}
use Rattle.table.specs.declared.Table.{Table}
use Rattle.table.proofs.Counts.{hasnt_cnt, cnt_hasnt, length_cut}

module _ {X : Type 0} (p : X → Bool) (xs : List X) (n : ℕ) where
  pub taken : length (cut p xs) < n → (has p xs || ltb (length xs) n) ≡ true
  taken h = elim (cases_Bool (has p xs)) [
    | inl t ↦ or_left (has p xs) (ltb (length xs) n) t
    | inr f ↦ or_right (has p xs) (ltb (length xs) n) (lt-ltb (length xs) n (omega (arith, hasnt_cnt p xs f, length_cut p xs)))
  ]

  pub full : cnt p xs ≡ 0 → n ≤ length xs → (has p xs || ltb (length xs) n) ≡ false
  full e h = or_from (has p xs) (ltb (length xs) n) (cnt_hasnt p xs e) (le-ltb (length xs) n h)

  -- full, with none to replace
  module _ (out : n ≤ length (cut p xs)) (fit : length xs ≤ n) where
    pub none_gone : has p xs ≡ false
    none_gone = cnt_hasnt p xs (omega (arith, length_cut p xs))

    pub refused : (has p xs || ltb (length xs) n) ≡ false
    refused = full (omega (arith, length_cut p xs)) (omega (arith, length_cut p xs))

-- a table's rows fit its room, which is at most 4,096, and no two of them have one key
module _ {R K : Type 0} {row : _} (t : Table R K row) where
  pub listed_fits : length (listed t) ≤ room t
  unfolding listed room
  listed_fits = omega (arith, t.inside, t.limit, length-take t.len t.rows.now)

  -- at most one row of each key
  pub listed_single : Single row.same row.key_of (listed t)
  unfolding listed
  listed_single = t.single

  -- a table's length needs no clamp
  pub listed_clamped : listed t ≡ take (min t.len most) t.rows.now
  unfolding listed
  listed_clamped = let e : t.len ≡ min t.len most = omega (arith, t.limit) in ap (λ n. take n t.rows.now) e

  pub room_most : room t ≤ most
  unfolding room
  room_most = omega arith
