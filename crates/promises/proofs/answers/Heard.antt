-- An answer is told by its numbers, so that what is heard is the answer.
use mathlib.Core.Path.{◌≡◌, ap}
use mathlib.Core.Option.{Option, some, none}
use Rattle.encoding.proofs.Logic.{clash}
use Rattle.recovery.specs.declared.Answer.{Answer}
use Rattle.recovery.specs.Numbers.{numbers_of}
use Rattle.recovery.proofs.NoSecondOutcome.{answer_numbers}
use Rattle.promises.specs.Runs.{Box, Event, answer_to, numbered, Hears}

number_is : (z : Option Answer) (x : Answer) → numbered z ≡ some (numbers_of x) → z ≡ some x
number_is none x e = clash cc
number_is (some y) x e = let z : numbers_of y ≡ numbers_of x = cc in ap some (answer_numbers y x z)

pub answered : (b : Box) (e : Event) (x : Answer) → Hears b e x → answer_to b e ≡ some x
answered b e x h = number_is (answer_to b e) x h

pub hears : (b : Box) (e : Event) (x : Answer) → answer_to b e ≡ some x → Hears b e x
hears b e x h = ap numbered h
