-- What a search finds on its way.
use Rattle.std.proofs.Common.{◌≡◌, ◌∙◌, Bool, true, List, [], ◌∷◌, ◌++◌, ap, refl, sym}
use Rattle.std.specs.Prelude.{flat_map, option_to_list}
use Rattle.std.proofs.lemmas.List.{append-nil, append_assoc}
use Rattle.toml_edit.specs.model.Text.{Text}
use Rattle.toml_edit.specs.model.Tree.{Node}
use Rattle.toml_edit.specs.tree.Visits.{VisitsInOrder, visits_none, visits_last, visits_next}
use Rattle.toml_edit_visit.specs.Below.{Step}
use Rattle.example_proofs.specs.Misspelled.{misspelled_at}
use Rattle.example_proofs.specs.Searching.{Finds}
use Rattle.example_proofs.specs.declared.misspelled.Place.{Place}
use Rattle.example_proofs.specs.declared.misspelled.Search.{Search}

abbrev pub all_in : Text → List (List Step × Node) → List Place
all_in source xs = flat_map (λ x. option_to_list (misspelled_at source x.0)) xs

-- a search that goes on to the end has the places of all
pub all-found : (xs : List (List Step × Node)) (u w : Search) (goes : Bool) → VisitsInOrder Finds xs u goes w → goes ≡ true
    → w.places.items ≡ u.places.items ++ all_in u.source.now xs
all-found [] u w goes visits_none h = sym (append-nil u.places.items)
all-found (x ∷ xs) u w goes (visits_last p) h = absurd cc
all-found (x ∷ xs) u w goes (visits_next v p r) h =
    all-found xs v w goes r h
    ∙ ap (λ (s : Text). v.places.items ++ all_in s xs) p.0
    ∙ ap (λ (ps : List Place). ps ++ all_in u.source.now xs) (p.1 refl)
    ∙ append_assoc u.places.items (option_to_list (misspelled_at u.source.now x.0)) (all_in u.source.now xs)
