-- A week read off bytes by its edition, its days and its keyholders tested, and the same week written in another edition.
use Rattle.std.specs.Prelude.{ℕ, zero, suc, Option, Some, None, ◌*◌, ◌-◌, ◌/◌, ◌%◌, List, ◌++◌, Bool, ◌||◌, not, eqb, ltb, leb, take, drop}
use Rattle.std.specs.Int.Count.{ones}
use Rattle.encoding.specs.Bytes.{number, bytes}
use Rattle.encoding.specs.Concat.{concat}
use Rattle.encoding.specs.Lowest.{lowest}
use Rattle.weeks.specs.declared.Edition.{Edition}
use Rattle.weeks.specs.Editions.{days_a_week, times_a_week, width, limit, minutes, mask_size}

-- time k of a week, from 0, in the edition's unit: day 1's opening and closing, then day 2's, and so on
unfoldable pub time : Edition → List ℕ → ℕ → ℕ
time e s k = number (take (width e) (drop (width e * k) s))

-- the times of day d, from 1
abbrev pub opening : Edition → List ℕ → ℕ → ℕ
opening e s d = time e s (2 * d - 2)

abbrev pub closing : Edition → List ℕ → ℕ → ℕ
closing e s d = time e s (2 * d - 1)

-- time k in minutes: what it means, whatever the edition
abbrev pub minute : Edition → List ℕ → ℕ → ℕ
minute e s k = minutes e * time e s k

-- ---- days

-- the lowest day that meets a test, 0 if there is none
abbrev pub lowest_day : (ℕ → Bool) → ℕ
lowest_day t = lowest t days_a_week

-- the same as an option: the day, where there is one
abbrev pub some_day : ℕ → Option ℕ
some_day zero = None
some_day (suc d) = Some (suc d)

-- a time above the limit, or a closing below its opening
abbrev pub wrong : Edition → ℕ → ℕ → Bool
wrong e opens closes = ltb (limit e) opens || ltb (limit e) closes || ltb closes opens

unfoldable pub wrong_day : Edition → List ℕ → ℕ → Bool
wrong_day e s d = wrong e (opening e s d) (closing e s d)

-- minutes that are no whole number of an edition's units
abbrev pub uneven : Edition → ℕ → Bool
uneven o m = not (eqb (m % minutes o) 0)

-- a time that edition o cannot tell
unfoldable pub uneven_day : Edition → Edition → List ℕ → ℕ → Bool
uneven_day e o s d = uneven o (minute e s (2 * d - 2)) || uneven o (minute e s (2 * d - 1))

-- ---- keyholders

-- the mask behind the times, a bit for each keyholder who must attend; 0 where the edition has none
unfoldable pub keyholders : Edition → List ℕ → ℕ
keyholders e s = number (take (mask_size e) (drop (width e * times_a_week) s))

-- dual custody, the two-person rule: where the edition has a mask, at least two of its bits are set
unfoldable pub enough_keyholders : Edition → ℕ → Bool
enough_keyholders e m = eqb (mask_size e) 0 || leb 2 (ones m)

-- ---- the same minutes in edition o

-- time k, in as many bytes as o's times have
unfoldable pub time_in : Edition → Edition → List ℕ → ℕ → List ℕ
time_in e o s k = bytes (width o) (minute e s k / minutes o)

unfoldable pub times_in : Edition → Edition → List ℕ → List ℕ
times_in e o s = concat times_a_week (time_in e o s)

-- the times, then mask m
unfoldable pub in_edition : Edition → Edition → List ℕ → ℕ → List ℕ
in_edition e o s m = times_in e o s ++ bytes (mask_size o) m
