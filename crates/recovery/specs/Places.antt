-- Lists by place, counted from 1, as pages, fates and rows are.
use Rattle.std.specs.Prelude.{List, [], ◌∷◌, ℕ, zero, suc, get_or, set}

module _ {A : Type 0} where
  -- the element at a place; `d` at place 0 and above the last
  abbrev pub nth : A → List A → ℕ → A
  nth d l zero = d
  nth d l (suc i) = get_or l i d

  -- the list with the element at a place replaced
  abbrev pub put : List A → ℕ → A → List A
  put l zero v = l
  put l (suc i) v = set l i v

  -- the values of a function at the n places above i
  unfoldable pub tabulate : (ℕ → A) → ℕ → ℕ → List A
  tabulate φ i zero = []
  tabulate φ i (suc n) = φ (suc i) ∷ tabulate φ (suc i) n
