-- A tree that fits still does where a value is replaced.
use Rattle.std.proofs.Common.{◌≡◌, refl, sym, ◌∙◌, ap, true, false, List, [], ◌∷◌, ◌++◌, Some}
use Rattle.std.specs.Prelude.{◌&&◌, nat_le, map}
use Rattle.toml_edit_model.specs.Mode.{Mode}
use Rattle.toml_edit_model.specs.Text.{Text, is_empty}
use Rattle.toml_edit_model.specs.Syntax.{is_short, nesting_limit, depth, has_short_keys}
use Rattle.toml_edit_model.specs.Paths.{at_key, Path, to_key}
use Rattle.toml_edit_model.specs.Tree.{Key, Node, SlotsAreWellMade, Tree, is_value_node, node_decor}
use Rattle.toml_edit_model.specs.HeaderOrder.{Visit, slots_walk}
use Rattle.toml_edit_model.specs.Print.{Line, segments, value_of, table_lines, below, is_line_node, printed_line}
use Rattle.toml_edit_model.specs.Fits.{FitsIn, is_steady_in}
use Rattle.toml_edit_model.specs.Slots.{Slot, keyed, lookup_slot, changed}
use Rattle.toml_edit_model.specs.Lists.{slot_list, slots_from}
use Rattle.toml_edit_laws.specs.Locality.{Turn, Leads, root_visit, edited, value_line, is_plain_value}
use Rattle.toml_edit_laws.proofs.common.Tests.{and_left}
use Rattle.toml_edit_laws.proofs.common.PathLaws.{front-refl}
use Rattle.toml_edit_laws.proofs.locality.Blocks.{blocks, is_headed}
use Rattle.toml_edit_laws.proofs.locality.Slots.{slots_under, Found, found}
use Rattle.toml_edit_laws.proofs.locality.Splice.{LineSplice, BlockSplice, Around, around}
use Rattle.toml_edit_laws.proofs.locality.Along.{Whole, tree_blocks, whole-tree}
use Rattle.toml_edit_laws.proofs.locality.Sound.{Steady, steady-parts, leads-made, leads-sound, sound-slot}
use Rattle.toml_edit_laws.proofs.locality.Printing.{with_lines, headed-same}
use Rattle.toml_edit_laws.proofs.locality.Edited.{firm-visits}
use Rattle.toml_edit_laws.proofs.locality.Values.{plain-value, plain-undotted, line-value, no-value-walk, slot-line}
use Rattle.toml_edit_laws.proofs.locality.Replacing.{itself, replaced}
use Rattle.toml_edit_edit_laws.specs.Fitting.{IsKeptOrSpaced, FitsAnywhere}
use Rattle.toml_edit_edit_laws.proofs.fitting.Lines.{keys-short, replaced-suits, value-limits}
use Rattle.toml_edit_edit_laws.proofs.fitting.Limits.{limits-changed}
use Rattle.toml_edit_edit_laws.proofs.fitting.Whole.{edited-fits}

some-lines : (xs ys : List Line) (x : Line) → is_empty (xs ++ (x ∷ ys)) ≡ false
some-lines [] ys x = refl
some-lines (y ∷ xs) ys x = refl

module _ (mode : Mode) where
  module _ (t : Tree) (way : List Turn) (v : Visit) (k : Text) (f : Key → Key) (l : Key) (old n : Node)
      (made : SlotsAreWellMade t.slots) (steady : is_steady_in mode t ≡ true) (leads : Leads way (root_visit t) v)
      (is_there : lookup_slot k (slot_list v.slots) ≡ Some (keyed l old)) (value : is_value_node old ≡ true)
      (plain : is_plain_value n ≡ true) (name : (f l).name ≡ l.name) where
    abbrev g : List (Slot Node) → List (Slot Node)
    g = changed k (λ s. (keyed (f s.key) n))

    abbrev u : Tree
    u = edited way g t

    abbrev q : Path
    q = to_key v.path l.name

    abbrev M : List Key → List Line
    M lk = value_line mode (lk ++ (l ∷ [])) old ∷ []

    abbrev N : List Key → List Line
    N lk = value_line mode (lk ++ (f l ∷ [])) n ∷ []

    st : Steady mode t
    st = steady-parts mode t steady

    fd : Found k (keyed l old) (slot_list v.slots)
    fd = found k v.slots (keyed l old) (leads-made way (root_visit t) v made leads) is_there

    beside : (bp : Path) (lk : List Key) → below bp lk ≡ v.path
        → Around mode q v bp lk (keyed l old) (keyed (f l) n) (slots_under g v.slots)
    beside bp lk at =
        around mode q v bp lk k (keyed l old) (keyed (f l) n) (slots_under g v.slots) at (front-refl q) fd
        (ap slots_from (fd.change (λ s. (keyed (f s.key) n))))

    old-line : is_line_node old ≡ true
    old-line =
        line-value old value (sound-slot k (keyed l old) v.slots fd (leads-sound way (root_visit t) v made st.sound leads)).1

    new-line : is_line_node n ≡ true
    new-line = line-value n (plain-value n plain) (plain-undotted n plain)

    edit-lines : (bp : Path) (lk : List Key) → below bp lk ≡ v.path
        → LineSplice mode q bp (M lk) (N lk) (table_lines mode v.slots lk) (table_lines mode (slots_under g v.slots) lk)
    edit-lines bp lk at =
        let a = beside bp lk at in
        record {
          front = a.lines_front;
          back = a.lines_back;
          first = a.old_lines ∙ ap (λ z. a.lines_front ++ (z ++ a.lines_back)) (slot-line mode l old lk old-line);
          second = a.new_lines ∙ ap (λ z. a.lines_front ++ (z ++ a.lines_back)) (slot-line mode (f l) n lk new-line);
          out_front = a.out_lines_front;
          out_back = a.out_lines_back;
        }

    edit-blocks : BlockSplice mode q itself [] [] (blocks mode (slots_walk v.slots v.path v.keys))
        (blocks mode (slots_walk (slots_under g v.slots) v.path v.keys))
    edit-blocks =
        let a = beside v.path [] refl in
        record {
          front = a.front;
          back = a.back;
          first = a.old_blocks ∙ ap (λ z. a.front ++ (blocks mode z ++ a.back)) (no-value-walk old (to_key v.path l.name) (v.keys
              ++ (l ∷ [])) false value);
          second = ap (map itself)
              (a.new_blocks ∙ ap (λ z. a.front ++ (blocks mode z ++ a.back)) (no-value-walk n (to_key v.path (f l).name) (v.keys
              ++ (f l ∷ [])) false (plain-value n plain)));
          out_front = a.out_front;
          out_back = a.out_back;
        }

    pub w : Whole mode q itself v g M N [] [] (tree_blocks mode t) (tree_blocks mode u)
    w = whole-tree mode q itself v g M N [] [] (at_key l.name) (front-refl q) edit-lines edit-blocks way t made (firm-visits mode t st)
        leads

    as-before : is_headed (with_lines w.block w.lines) ≡ is_headed w.block
    as-before =
        let c = w.changes in
        headed-same w.block w.lines
        (ap is_empty c.second ∙ some-lines c.front c.back (value_line mode (w.keys ++ (f l ∷ [])) n)
        ∙ sym (ap is_empty c.first ∙ some-lines c.front c.back (value_line mode (w.keys ++ (l ∷ [])) old)))

    pub replaced-fits : IsKeptOrSpaced mode l.leaf (f l).leaf → IsKeptOrSpaced mode l.dotted (f l).dotted
        → IsKeptOrSpaced mode (node_decor old) (node_decor n) → FitsAnywhere mode n → FitsIn mode t → FitsIn mode u
    replaced-fits on_leaf on_dots on_value anywhere fits =
        let law = replaced mode t way v k f l old n made steady leads is_there value plain name in
        let c = law.0 in
        let before : Line = value_line mode (c.keys ++ (l ∷ [])) old in
        let after : Line = value_line mode (c.keys ++ (f l ∷ [])) n in
        edited-fits mode q v g M N [] tt way t st (steady-parts mode u law.1.2) w as-before
        (λ h. (replaced-suits mode w.keys l (f l) old n on_leaf on_dots on_value anywhere h.0, tt))
        (limits-changed mode t u c.before c.after (printed_line mode c.block before) (printed_line mode c.block after) c.first c.second
        (λ keeps.
        value-limits mode (c.keys ++ (f l ∷ [])) n anywhere
        (keys-short mode c.keys l [] (f l)
        (and_left (is_short (segments mode before.keys))
        (nat_le (depth (value_of mode old)) nesting_limit && has_short_keys (value_of mode old)) keeps)))
        fits.limits)
        fits
