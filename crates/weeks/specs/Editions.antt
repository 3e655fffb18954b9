-- The editions of the lock heads. Of each: its number, the bytes of a time, the highest time, the minutes of a unit of time, and the bytes of
-- the keyholder mask. A new edition is one more case of each, and one more in the list: the tests and the converter are said over these.
use Rattle.std.specs.Prelude.{ℕ, ◌+◌, ◌*◌, List, [], ◌∷◌, cond, eqb, Option, Some, None}
use Rattle.weeks.specs.declared.Edition.TheVariants.{First, Second, Third}
use Rattle.weeks.specs.declared.Edition.{Edition}

-- Monday, day 1, to Sunday
abbrev pub days_a_week : ℕ
days_a_week = 7

-- an opening and a closing each
abbrev pub times_a_week : ℕ
times_a_week = 14

-- its number
abbrev pub edition_number : Edition → ℕ
edition_number First = 1
edition_number Second = 2
edition_number Third = 3

-- the bytes of a time
abbrev pub width : Edition → ℕ
width First = 1
width Second = 2
width Third = 2

-- the highest time: 96 quarter hours, or 1,440 minutes
abbrev pub limit : Edition → ℕ
limit First = 96
limit Second = 1440
limit Third = 1440

-- the minutes of a unit of time
abbrev pub minutes : Edition → ℕ
minutes First = 15
minutes Second = 1
minutes Third = 1

-- the bytes of the mask: 16 bits for the keyholders who must attend, in the third alone
abbrev pub mask_size : Edition → ℕ
mask_size First = 0
mask_size Second = 0
mask_size Third = 2

abbrev pub editions : List Edition
editions = First ∷ Second ∷ Third ∷ []

-- the bytes of an edition's week: its times, then its mask
unfoldable pub size : Edition → ℕ
size e = width e * times_a_week + mask_size e

-- lengths name the editions
unfoldable pub named_in : List Edition → ℕ → Option Edition
named_in [] n = None
named_in (e ∷ es) n = cond (eqb n (size e)) (Some e) (named_in es n)

unfoldable pub named : ℕ → Option Edition
named n = named_in editions n

-- by cases: f of the edition that a length names, d where it names none
abbrev pub on_known : {A : Type 0} → Option Edition → (Edition → A) → A → A
on_known (Some e) f d = f e
on_known None f d = d

-- by both lengths: f of the editions that they name, d where one of them names none, or they are equal
abbrev pub on_lengths : {A : Type 0} → ℕ → ℕ → (Edition → Edition → A) → A → A
on_lengths n k f d = on_known (named n) (λ (e : Edition). on_known (named k) (λ (o : Edition). cond (eqb n k) d (f e o)) d) d
