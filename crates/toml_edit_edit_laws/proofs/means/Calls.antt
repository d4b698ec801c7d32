-- What each call means.
use Rattle.std.proofs.Common.{◌≡◌, ◌⊎◌, sym, ◌∙◌, ap, subst, true, false, List, [], ◌∷◌, ◌++◌, Some}
use Rattle.toml_edit_model.specs.Text.{Text, is_empty}
use Rattle.toml_edit_model.specs.Mode.{Mode}
use Rattle.toml_edit_model.specs.Tree.{Key, Node, SlotsAreWellMade, Tree}
use Rattle.toml_edit_model.specs.HeaderOrder.{Visit}
use Rattle.toml_edit_model.specs.Keys.{names}
use Rattle.toml_edit_model.specs.Print.{lines_of}
use Rattle.toml_edit_laws.specs.Locality.{has_block, is_plain_value}
use Rattle.toml_edit_edit_laws.specs.Commands.{done, remove_at, root_item, set_at}
use Rattle.toml_edit_edit_laws.specs.CommandLaws.{NamesTable}
use Rattle.toml_edit_edit_laws.specs.Means.{IsMeant, Loses, meant_at, shown_at}
use Rattle.toml_edit_edit_laws.specs.PathEdits.{CallMeans, RemovalMeans, sets}
use Rattle.toml_edit_edit_laws.proofs.path_calls.Places.{names-join}
use Rattle.toml_edit_edit_laws.proofs.means.Holders.{last-of}
use Rattle.toml_edit_edit_laws.proofs.means.Meant.{holder_is_meant, listing-is-meant, printed_is_meant, shown-there, value_is_meant}
use Rattle.toml_edit_edit_laws.proofs.means.Removing.{remove_element_means, remove_last_means, remove_means}
use Rattle.toml_edit_edit_laws.proofs.means.Setting.{set_means}

-- a value is set where one is shown
pub replacing-means : (t u : Tree) (path : List Key) (v old : Node) → SlotsAreWellMade t.slots → shown_at (names path) t ≡ Some old
    → is_plain_value old ≡ true → is_plain_value v ≡ true → set_at path v t ≡ done u → CallMeans (sets path v) t u
replacing-means t u [] v old made there is plain set = absurd cc
replacing-means t u (j ∷ rest) v old made there is plain set =
    let e = last-of j rest in
    let front : List Key = e.0 in
    let k : Key = e.1 in
    let ends : names (j ∷ rest) ≡ names front ++ (k.name ∷ []) = ap names e.2 ∙ names-join front (k ∷ []) in
    let meant : IsMeant t (meant_at t (names front)) =
    holder_is_meant t (names front) (k.name ∷ [])
    (subst (λ q. IsMeant t (meant_at t q)) ends (value_is_meant t (names (j ∷ rest)) old made there is)) in
    subst (λ q. CallMeans (sets q v) t u) (sym e.2)
    (set_means t u front k v made meant plain (ap (λ q. set_at q v t) (sym e.2) ∙ set))

-- or at a key of a table that is printed
pub adding-means : (mode : Mode) (t u : Tree) (path : List Key) (w : Visit) (k : Key) (v : Node) → SlotsAreWellMade t.slots
    → NamesTable t (names path) w → (has_block mode w ≡ true) ⊎ (is_empty (lines_of mode w) ≡ false) → is_plain_value v ≡ true
    → set_at (path ++ (k ∷ [])) v t ≡ done u → CallMeans (sets (path ++ (k ∷ [])) v) t u
adding-means mode t u path w k v made named has plain set =
    set_means t u path k v made (printed_is_meant mode t (names path) w made named has) plain set

pub removal-means : (t u : Tree) (path : List Text) → SlotsAreWellMade t.slots → remove_at path t ≡ done u → RemovalMeans path t u
removal-means t u path made gone =
    record {
      slot = λ front k n same at is.
          subst (λ q. Loses (meant_at t q) t u) (sym same)
          (remove_means t u front n k made at is (ap (λ q. remove_at q t) (sym same) ∙ gone));
      element = λ front x n m same at is left shown.
          remove_element_means t u front n m x made (shown-there front false (root_item t) n at) is
          (listing-is-meant t front n m x made at is left) left shown (ap (λ q. remove_at q t) (sym same) ∙ gone);
      last = λ front x n m same at is left hidden.
          remove_last_means t u front n m x made at is left hidden (ap (λ q. remove_at q t) (sym same) ∙ gone);
    }
