-- The tables along a path, one step further.
use Rattle.std.proofs.Common.{◌≡◌, sym, ◌∙◌, ap, List, [], ◌∷◌, ◌++◌, append_assoc, append-nil}
use Rattle.toml_edit_model.specs.Paths.{Path, to_key}
use Rattle.toml_edit_model.specs.Meaning.{fact, a_table, tables_along}
use Rattle.toml_edit_model.specs.Tree.{Key}
use Rattle.toml_edit_model.specs.Print.{below}
use Rattle.toml_edit_laws.proofs.print_meaning.ValueFacts.{key_facts}
use Rattle.toml_edit_laws.proofs.common.TablesAlong.{tables-key}

-- keys below a table add theirs
pub tables-below : (p : Path) (ks : List Key) → tables_along [] p ++ key_facts p ks ≡ tables_along [] (below p ks)
tables-below p [] = append-nil (tables_along [] p)
tables-below p (k ∷ ks) =
    sym (append_assoc (tables_along [] p) (fact (to_key p k.name) a_table ∷ []) (key_facts (to_key p k.name) ks))
    ∙ ap (λ fs. fs ++ key_facts (to_key p k.name) ks) (sym (tables-key p k.name))
    ∙ tables-below (to_key p k.name) ks
