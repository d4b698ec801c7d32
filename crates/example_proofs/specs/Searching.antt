-- A visit of a search for misspelled keys.
use Rattle.std.specs.Prelude.{◌≡◌, Bool, List, ◌++◌, IsTrue, option_to_list}
use Rattle.toml_edit.specs.model.Tree.{Node}
use Rattle.toml_edit_visit.specs.Below.{Step}
use Rattle.example_proofs.specs.Misspelled.{misspelled_at}
use Rattle.example_proofs.specs.declared.misspelled.Search.{Search}

-- it adds the place of the key at the end of the path
abbrev pub Finds : Search → List Step × Node → Bool → Search → Type 0
Finds old x goes new =
    (new.source.now ≡ old.source.now)
    × (IsTrue goes → new.places.items ≡ old.places.items ++ option_to_list (misspelled_at old.source.now x.0))
