-- A decor has no meaning: a tree with other decors means the same.
use Rattle.std.proofs.Common.{◌≡◌, refl, sym, ◌∙◌, ap, subst, false, List, [], ◌∷◌, ◌++◌}
use Rattle.std.specs.Prelude.{map}
use Rattle.toml_edit_model.specs.Paths.{at_key, Path, to_key}
use Rattle.toml_edit_model.specs.Meaning.{Fact, fact, a_table}
use Rattle.toml_edit_model.specs.Tree.{Decor, Node, nothing, leaf, list, inline, table, tables}
use Rattle.toml_edit_model.specs.Shown.{is_shown, node_facts, slots_facts, shown_meaning}
use Rattle.toml_edit_model.specs.Slots.{changed}
use Rattle.toml_edit_model.specs.Lists.{slot_list, slots_from}
use Rattle.toml_edit_model.specs.Conversions.{with_decor}
use Rattle.toml_edit_laws.specs.Locality.{root_visit, along}
use Rattle.toml_edit_laws.proofs.common.PathLaws.{is_front, front-refl}
use Rattle.toml_edit_laws.proofs.locality.Slots.{slots_under, Found, found, slots_from-list}
use Rattle.toml_edit_edit_laws.proofs.renaming.Facts.{on_path, Told, in-place, along-told}
use Rattle.toml_edit_edit_laws.specs.Comments.{RecommentedMeans}

-- a path as it is
abbrev pub as_is : Path → Path
as_is p = p

pub stays-as_is : (q p : Path) → is_front q p ≡ false → as_is p ≡ p
stays-as_is q p h = refl

pub facts-as_is : (fs : List Fact) → map (on_path as_is) fs ≡ fs
facts-as_is [] = refl
facts-as_is (f ∷ fs) = ap (λ z. f ∷ z) (facts-as_is fs)

decor-facts : (d : Decor) (n : Node) (p : Path) → node_facts (with_decor d n) p ≡ node_facts n p
decor-facts d (leaf s r e) p = refl
decor-facts d (list f xs) p = refl
decor-facts d (inline f ss) p = refl
decor-facts d (table f ss) p = refl
decor-facts d (tables e xs) p = refl
decor-facts d nothing p = refl

decor-shown : (d : Decor) (n : Node) → is_shown (with_decor d n) ≡ is_shown n
decor-shown d (leaf s r e) = refl
decor-shown d (list f xs) = refl
decor-shown d (inline f ss) = refl
decor-shown d (table f ss) = refl
decor-shown d (tables e xs) = refl
decor-shown d nothing = refl

pub recommented_means : RecommentedMeans
unfolding shown_meaning
recommented_means t way v k h s d made leads is_there name item =
    let q : Path = to_key v.path s.key.name in
    let told : Told as_is q (stays-as_is q) [] t.slots (slots_under (along way (changed k h)) t.slots) =
    along-told as_is q (stays-as_is q) v (at_key s.key.name) (front-refl q) way (changed k h) (root_visit t) made leads
    (λ w.
    let fd : Found k s (slot_list v.slots) = found k v.slots s w is_there in
    subst (λ ss. Told as_is q (stays-as_is q) v.path ss (slots_under (changed k h) v.slots)) (sym (sym (slots_from-list v.slots)
    ∙ ap slots_from fd.is))
    (subst (λ ss. Told as_is q (stays-as_is q) v.path (slots_from (fd.front ++ (s ∷ fd.back))) ss) (sym (ap slots_from (fd.change h)))
    (in-place as_is q (stays-as_is q) v.path fd.front fd.back s (h s) (front-refl q) fd.others_front fd.others_back (ap is_shown item
    ∙ decor-shown d s.item)
    (ap (λ x. node_facts (h s).item (to_key v.path x)) name ∙ ap (λ n. node_facts n q) item ∙ decor-facts d s.item q
    ∙ sym (facts-as_is (node_facts s.item q)))))) in
    ap (λ zs. fact [] a_table ∷ zs) (told.0 ∙ facts-as_is (slots_facts t.slots []))
