-- The search by the first syllables after tidying: the records that it found, where they then start. Assumes nothing.
use mathlib.Core.Path.{◌≡◌, refl}
use mathlib.Core.List.{List, [], map}
use Rattle.formula.specs.Row.{Row}
use Rattle.entries.specs.Entries.{Entry}
use Rattle.entries.specs.Book.{GoodAfter}
use Rattle.entries.specs.Tidy.{tidied, start_tidied}
use Rattle.book_fitting.specs.Fitting.{fits}
use Rattle.sorting.proofs.Tidied.{starts_tidied}
use Rattle.prefix_search.specs.Prefix.{starts_fitting}

pub fitting_tidied : (query : Row) (list : List Entry) → GoodAfter 0 [] list → starts_fitting query (tidied list) ≡ map (start_tidied list) (starts_fitting query list)
fitting_tidied query list g = starts_tidied list g (fits query) (λ x p. refl)
