-- A tree that fits still does where a slot is removed.
use Rattle.std.proofs.Common.{◌≡◌, refl, sym, ◌∙◌, ap, subst, Bool, true, false, List, [], ◌∷◌, ◌++◌, Some}
use Rattle.std.specs.Prelude.{◌&&◌, ◌||◌, not, map, is_some}
use Rattle.std.specs.List.{AllByRecursion}
use Rattle.toml_edit_model.specs.Mode.{Mode}
use Rattle.toml_edit_model.specs.Text.{Text, is_empty}
use Rattle.toml_edit_model.specs.Paths.{at_key, Path, to_key}
use Rattle.toml_edit_model.specs.Tree.{Key, Node, SlotsAreWellMade, Tree}
use Rattle.toml_edit_model.specs.HeaderOrder.{Visit, node_walk, slots_walk}
use Rattle.toml_edit_model.specs.Print.{Line, table_lines, below}
use Rattle.toml_edit_model.specs.Fits.{has_own_prefix, FitsIn, is_steady_in}
use Rattle.toml_edit_model.specs.Slots.{Slot, lookup_slot, without}
use Rattle.toml_edit_model.specs.Lists.{slot_list, slots_from}
use Rattle.toml_edit_laws.specs.Locality.{Turn, Leads, root_visit, edited, is_at_or_below, statements}
use Rattle.toml_edit_laws.proofs.common.Tests.{and_right}
use Rattle.toml_edit_laws.proofs.common.PathLaws.{is_front, front-refl}
use Rattle.toml_edit_laws.proofs.common.Each.{all-map, all-back}
use Rattle.toml_edit_laws.proofs.locality.Blocks.{Block, blocks, blocks-append, is_headed, IsSteadyBlock}
use Rattle.toml_edit_laws.proofs.locality.Under.{slot_lines, IsBlockUnder, node-under}
use Rattle.toml_edit_laws.proofs.locality.Slots.{slots_under, Found, found, slots_from-list, lines-append, walk-append}
use Rattle.toml_edit_laws.proofs.locality.Splice.{LineSplice, BlockSplice, lines-split, blocks-split, other-lines-out, other-blocks-out}
use Rattle.toml_edit_laws.proofs.locality.Along.{Whole, tree_blocks, whole-tree}
use Rattle.toml_edit_laws.proofs.locality.Sound.{Steady, steady-parts, leads-made}
use Rattle.toml_edit_laws.proofs.locality.Printing.{with_lines}
use Rattle.toml_edit_laws.proofs.locality.Edited.{firm-visits, steady-tree}
use Rattle.toml_edit_laws.proofs.locality.Replacing.{itself}
use Rattle.toml_edit_laws.proofs.locality.Removing.{removed}
use Rattle.toml_edit_edit_laws.proofs.fitting.Limits.{limits-filtered}
use Rattle.toml_edit_edit_laws.proofs.fitting.Whole.{edited-fits}

-- a steady block keeps its header when it loses lines
headed-less : (b : Block) (ls : List Line) → (is_empty b.lines ≡ true → is_empty ls ≡ true) → IsSteadyBlock b
    → is_headed (with_lines b ls) ≡ is_headed b
headed-less b ls fewer s =
    by_tests (is_empty b.keys) b.is_element b.fields.is_implicit (is_empty b.lines) (is_empty ls)
    (is_some b.fields.position && has_own_prefix b.fields.decor.prefix) fewer s
  where
    by_tests : (k e i l m x : Bool) → (l ≡ true → m ≡ true) → (not (not k && (e || not (i && l))) || (x && (e || not i))) ≡ true
        → (not k && (e || not (i && m))) ≡ (not k && (e || not (i && l)))
    by_tests true e i l m x f s = refl
    by_tests false true i l m x f s = refl
    by_tests false false false l m x f s = refl
    by_tests false false true true m x f s = ap not (f refl)
    by_tests false false true false m x f s = absurd (clash (and_right x false s))
      where
        clash : false ≡ true → ⊥
        clash e = cc

fewer-lines : (xs ms ys : List Line) → is_empty (xs ++ (ms ++ ys)) ≡ true → is_empty (xs ++ ys) ≡ true
fewer-lines [] [] ys h = h
fewer-lines [] (m ∷ ms) ys h = absurd cc
fewer-lines (x ∷ xs) ms ys h = h

module _ (mode : Mode) where
  module _ (t : Tree) (way : List Turn) (v : Visit) (k : Text) (s : Slot Node)
      (made : SlotsAreWellMade t.slots) (steady : is_steady_in mode t ≡ true) (leads : Leads way (root_visit t) v)
      (is_there : lookup_slot k (slot_list v.slots) ≡ Some s) where
    abbrev g : List (Slot Node) → List (Slot Node)
    g = without k

    abbrev u : Tree
    u = edited way g t

    abbrev q : Path
    q = to_key v.path s.key.name

    abbrev M : List Key → List Line
    M lk = slot_lines mode s.key s.item lk

    abbrev N : List Key → List Line
    N lk = []

    abbrev m : List Block
    m = blocks mode (node_walk s.item q (v.keys ++ (s.key ∷ [])) false)

    st : Steady mode t
    st = steady-parts mode t steady

    fd : Found k s (slot_list v.slots)
    fd = found k v.slots s (leads-made way (root_visit t) v made leads) is_there

    is_new : slots_under g v.slots ≡ slots_from (fd.front ++ fd.back)
    is_new = ap slots_from fd.remove

    is_old : v.slots ≡ slots_from (fd.front ++ (s ∷ fd.back))
    is_old = sym (slots_from-list v.slots) ∙ ap slots_from fd.is

    edit-lines : (bp : Path) (lk : List Key) → below bp lk ≡ v.path
        → LineSplice mode q bp (M lk) (N lk) (table_lines mode v.slots lk) (table_lines mode (slots_under g v.slots) lk)
    edit-lines bp lk at =
        record {
          front = table_lines mode (slots_from fd.front) lk;
          back = table_lines mode (slots_from fd.back) lk;
          first = ap (λ z. table_lines mode z lk) is_old ∙ lines-split mode fd.front s fd.back lk;
          second = ap (λ z. table_lines mode z lk) is_new ∙ lines-append mode fd.front fd.back lk;
          out_front = other-lines-out mode q v.path s.key.name (front-refl q) bp lk fd.front at fd.others_front;
          out_back = other-lines-out mode q v.path s.key.name (front-refl q) bp lk fd.back at fd.others_back;
        }

    edit-blocks : BlockSplice mode q itself m [] (blocks mode (slots_walk v.slots v.path v.keys))
        (blocks mode (slots_walk (slots_under g v.slots) v.path v.keys))
    edit-blocks =
        record {
          front = blocks mode (slots_walk (slots_from fd.front) v.path v.keys);
          back = blocks mode (slots_walk (slots_from fd.back) v.path v.keys);
          first = ap (λ z. blocks mode (slots_walk z v.path v.keys)) is_old ∙ blocks-split mode fd.front s fd.back v.path v.keys;
          second = ap (map itself)
              (ap (λ z. blocks mode (slots_walk z v.path v.keys)) is_new ∙ ap (blocks mode) (walk-append fd.front fd.back v.path v.keys)
              ∙ blocks-append mode (slots_walk (slots_from fd.front) v.path v.keys) (slots_walk (slots_from fd.back) v.path v.keys));
          out_front = other-blocks-out mode q v.path s.key.name (front-refl q) v.keys fd.front fd.others_front;
          out_back = other-blocks-out mode q v.path s.key.name (front-refl q) v.keys fd.back fd.others_back;
        }

    w : Whole mode q itself v g M N m [] (tree_blocks mode t) (tree_blocks mode u)
    w = whole-tree mode q itself v g M N m [] (at_key s.key.name) (front-refl q) edit-lines edit-blocks way t made (firm-visits mode t st)
        leads

    blocks-in : AllByRecursion (λ (b : Block). is_front q b.path ≡ true) m
    blocks-in =
        all-map (IsBlockUnder q) (λ (b : Block). is_front q b.path ≡ true) m (λ b d. d.0)
        (node-under mode q s.item q (v.keys ++ (s.key ∷ [])) false (front-refl q))

    as-before : is_headed (with_lines w.block w.lines) ≡ is_headed w.block
    as-before =
        let c = w.changes in
        let rest : List Block = w.middle ++ (m ++ w.back) in
        headed-less w.block w.lines
        (λ e. ap is_empty c.second ∙ fewer-lines c.front (M w.keys) c.back (sym (ap is_empty c.first) ∙ e))
        (all-back IsSteadyBlock w.front (w.block ∷ rest) (subst (AllByRecursion IsSteadyBlock) w.first (steady-tree mode t st))).0

    pub removed-fits : FitsIn mode t → FitsIn mode u
    removed-fits fits =
        let law = removed mode t way v k s made steady leads is_there in
        edited-fits mode q v g M N m blocks-in way t st (steady-parts mode u law.2.2) w as-before (λ h. tt)
        (limits-filtered mode t u (λ p. not (is_at_or_below q p.path)) (ap statements law.0) fits.limits) fits
