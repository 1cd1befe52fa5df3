use Rattle.std.proofs.Common.{◌≡◌, ◌-◌, slice_get}
use Rattle.typed_places.specs.Typed.{typed_places}
use Rattle.typed_places.proofs.Seeking.{seen}
use Rattle.typed_places.proofs.place_in_word.Given as goal

abbrev pub invariant-loop : goal.invariant-loop
invariant-loop l = seen l.word l.at (l.place - l.counter) ≡ slice_get (typed_places l.word) l.place
