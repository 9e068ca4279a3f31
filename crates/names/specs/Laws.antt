-- The laws of the name book, so that no one above opens its definitions.
use Rattle.std.specs.Prelude.{◌≡◌, ℕ, ◌+◌, ◌-◌, ◌<◌, ◌≤◌, true, false, List, [], length, take, drop, Some, None, Ok, Err, slice_index_or}
use Rattle.refusal.specs.declared.Refusal.{Refusal}
use Rattle.refusal.specs.declared.Refusal.TheVariants.{BookFull}
use Rattle.names.specs.Texts.{Text, has, number_in, found, text_at, Apart}
use Rattle.names.specs.Shelf.{Shelf, most, roomy, fits, added, entered, planned_one, planned, part_in}
use Rattle.names.specs.Book.{texts}
use Rattle.names.specs.declared.book.NameBook.{NameBook}

-- texts by number
pub record NumbersStand : Type 0 where
  -- the numbers of known texts are 1 to the count, a new text would get the next
  pub counted : (ts : List Text) (a : Text) → has ts a ≡ true → (1 ≤ number_in ts a) × (number_in ts a ≤ length ts)
  pub next : (ts : List Text) (a : Text) → has ts a ≡ false → number_in ts a ≡ length ts + 1
  -- a look-up finds a known text's number, and no other
  pub found_known : (ts : List Text) (a : Text) → has ts a ≡ true → found ts a ≡ Some (number_in ts a)
  pub found_new : (ts : List Text) (a : Text) → has ts a ≡ false → found ts a ≡ None
  -- at the number k stands the k-th text, and at 0 or past the count none
  pub read : (ts : List Text) (k : ℕ) → 1 ≤ k → k ≤ length ts → text_at ts k ≡ Some (slice_index_or ts (k - 1) [])
  pub unread : (ts : List Text) (k : ℕ) → (1 ≤ k → length ts < k) → text_at ts k ≡ None
  -- a known text stands at its number, and what stands at a number is known
  pub stands : (ts : List Text) (a : Text) → has ts a ≡ true → text_at ts (number_in ts a) ≡ Some a
  pub known : (ts : List Text) (a : Text) (k : ℕ) → text_at ts k ≡ Some a → has ts a ≡ true
  -- different texts have different numbers, and where texts are apart a text has one number
  pub different : (ts : List Text) (a b : Text) → has ts a ≡ true → number_in ts a ≡ number_in ts b → a ≡ b
  pub only : (ts : List Text) (a : Text) (k : ℕ) → Apart ts → text_at ts k ≡ Some a → number_in ts a ≡ k
  pub once : (ts : List Text) (a : Text) (j k : ℕ) → Apart ts → text_at ts j ≡ Some a → text_at ts k ≡ Some a → j ≡ k

-- entering a text
pub record EnteringStands : Type 0 where
  -- a known text changes nothing, a new one stands behind the others
  pub nothing : (s : Shelf) (a : Text) → has s.texts a ≡ true → entered s a ≡ s
  pub behind : (s : Shelf) (a : Text) → has s.texts a ≡ false → entered s a ≡ added s a
  pub again : (s : Shelf) (a : Text) → entered (entered s a) a ≡ entered s a
  -- the entered text is known, by the number that it was given
  pub known : (s : Shelf) (a : Text) → has (entered s a).texts a ≡ true
  pub number : (s : Shelf) (a : Text) → number_in (entered s a).texts a ≡ number_in s.texts a
  pub text : (s : Shelf) (a : Text) → text_at (entered s a).texts (number_in s.texts a) ≡ Some a
  -- a second text gets its number only where it is the same text
  pub different : (s : Shelf) (a b : Text) → number_in (entered s a).texts b ≡ number_in s.texts a → a ≡ b
  -- every other text keeps its number, and every number its text
  pub known_kept : (s : Shelf) (a b : Text) → has s.texts b ≡ true → has (entered s a).texts b ≡ true
  pub number_kept : (s : Shelf) (a b : Text) → has s.texts b ≡ true → number_in (entered s a).texts b ≡ number_in s.texts b
  pub text_kept : (s : Shelf) (a : Text) (k : ℕ) (b : Text) → text_at s.texts k ≡ Some b → text_at (entered s a).texts k ≡ Some b
  -- texts that are apart stay so
  pub apart : (s : Shelf) (a : Text) → Apart s.texts → Apart (entered s a).texts

-- what entering answers, and plans
pub record PlansStand : Type 0 where
  -- a known text fits, a new one just where it finds room
  pub fits_known : (s : Shelf) (a : Text) → has s.texts a ≡ true → fits s a ≡ true
  pub fits_new : (s : Shelf) (a : Text) → has s.texts a ≡ false → fits s a ≡ roomy (length s.texts) s.entries s.bytes (length a)
  -- one text is answered its number where it fits, and else that the book is full
  pub answered : (s : Shelf) (a : Text) → fits s a ≡ true → planned_one s a ≡ Ok (number_in s.texts a)
  pub refused : (s : Shelf) (a : Text) → fits s a ≡ false → planned_one s a ≡ Err BookFull
  -- a plan for two tells what entering the one and then the other answers
  pub both : (s : Shelf) (a b : Text) (m n : ℕ) → planned s a b ≡ Ok (m, n) → (planned_one s a ≡ Ok m) × (planned_one (entered s a) b ≡ Ok n)
  pub both_from : (s : Shelf) (a b : Text) (m n : ℕ) → planned_one s a ≡ Ok m → planned_one (entered s a) b ≡ Ok n → planned s a b ≡ Ok (m, n)
  pub not_first : (s : Shelf) (a b : Text) (e : Refusal) → planned_one s a ≡ Err e → planned s a b ≡ Err e
  pub not_second : (s : Shelf) (a b : Text) (m : ℕ) (e : Refusal) → planned_one s a ≡ Ok m → planned_one (entered s a) b ≡ Err e → planned s a b ≡ Err e

-- the fixed words: a part is there just where they reach that far
pub record WordsStand : Type 0 where
  pub part : (words : Text) (start len : ℕ) → start + len ≤ length words → part_in words start len ≡ Some (take len (drop start words))
  pub past : (words : Text) (start len : ℕ) → length words < start + len → part_in words start len ≡ None

-- every book there is
pub record BooksStand : Type 0 where
  pub apart : (b : NameBook) → Apart (texts b)
  pub bounded : (b : NameBook) → length (texts b) ≤ most

pub record NamesStand : Type 0 where
  pub numbers : NumbersStand
  pub entering : EnteringStands
  pub plans : PlansStand
  pub words : WordsStand
  pub books : BooksStand
