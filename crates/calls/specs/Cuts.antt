-- What a cut of the supply leaves of the page that a call appends (a torn write).
use Rattle.std.specs.Prelude.{ℕ, suc, List, [], ◌∷◌, Bool, cond, ltb}
use Rattle.recovery.specs.Sheet.{page_bytes}
use Rattle.calls.specs.Leaves.{with_page}

-- byte by byte, the new one where it is stored and the old one where not
unfoldable pub mixed : (ℕ → Bool) → List ℕ → List ℕ → List ℕ
mixed kept [] old = []
mixed kept (x ∷ new) [] = []
mixed kept (x ∷ new) (y ∷ old) = cond (kept 0) x y ∷ mixed (λ i. kept (suc i)) new old

-- these bytes of the page above place q are stored, and all else is as it was
abbrev pub stored_of : (ℕ → Bool) → ℕ → List ℕ → List ℕ → List ℕ
stored_of kept q new old = with_page old q (mixed kept (page_bytes new (suc q)) (page_bytes old (suc q)))

-- the first n bytes: what is stored when a page's bytes are stored first to last, and the supply is cut after n of them
abbrev pub first_bytes : ℕ → ℕ → Bool
first_bytes n i = ltb i n
