-- A value in a table of a tree that fits, fits anywhere.
use Rattle.std.proofs.Common.{◌≡◌, refl, ap, subst, true, [], ◌∷◌, ◌++◌}
use Rattle.std.specs.Prelude.{◌&&◌, nat_le, not}
use Rattle.std.specs.List.{AllByRecursion}
use Rattle.toml_edit_model.specs.Mode.{Mode}
use Rattle.toml_edit_model.specs.Syntax.{is_short, nesting_limit, depth, has_short_keys}
use Rattle.toml_edit_model.specs.Tree.{is_value_node}
use Rattle.toml_edit_model.specs.Print.{Line, segments, value_of, printed_line}
use Rattle.toml_edit_model.specs.Fits.{PrintedLineSuits}
use Rattle.toml_edit_model.specs.Slots.{keyed}
use Rattle.toml_edit_model.specs.Lists.{slot_list, is_dotted_inline}
use Rattle.toml_edit_laws.specs.Locality.{root_visit, value_line, is_plain_value}
use Rattle.toml_edit_laws.proofs.common.Tests.{and_right, and_both}
use Rattle.toml_edit_laws.proofs.common.Each.{all-back}
use Rattle.toml_edit_laws.proofs.locality.Slots.{Found, found}
use Rattle.toml_edit_laws.proofs.locality.Sound.{Steady, steady-parts, leads-made, leads-sound, sound-slot}
use Rattle.toml_edit_laws.proofs.locality.Replacing.{replaced}
use Rattle.toml_edit_edit_laws.specs.FittingInside.{HeldValuesFit}
use Rattle.toml_edit_edit_laws.proofs.fitting.Blocks.{BlockSuits, suit-blocks}
use Rattle.toml_edit_edit_laws.proofs.fitting.Limits.{KeepsLimits, each-statement}
use Rattle.toml_edit_edit_laws.proofs.fitting.Replacing.{w}

module _ (mode : Mode) where
  pub held_values_fit : HeldValuesFit mode
  held_values_fit t way v k l old made steady fits leads there value =
      let st : Steady mode t = steady-parts mode t steady in
      let fd : Found k (keyed l old) (slot_list v.slots) =
      found k v.slots (keyed l old) (leads-made way (root_visit t) v made leads) there in
      let undotted = (sound-slot k (keyed l old) v.slots fd (leads-sound way (root_visit t) v made st.sound leads)).1 in
      let plain : is_plain_value old ≡ true = and_both (is_value_node old) (not (is_dotted_inline old)) value (ap not undotted) in
      let a = w mode t way v k (λ x. x) l old old made steady leads there value plain refl in
      let blocks = subst (AllByRecursion (BlockSuits mode)) a.first (suit-blocks mode t st fits.decors.tables) in
      let block = all-back (BlockSuits mode) a.front (a.block ∷ (a.middle ++ ([] ++ a.back))) blocks in
      let line : Line = value_line mode (a.keys ++ (l ∷ [])) old in
      let lines = subst (AllByRecursion (PrintedLineSuits mode)) a.changes.first block.0.1 in
      let suits = all-back (PrintedLineSuits mode) a.changes.front (line ∷ a.changes.back) lines in
      let c = (replaced mode t way v k (λ x. x) l old old made steady leads there value plain refl).0 in
      let shown : Line = value_line mode (c.keys ++ (l ∷ [])) old in
      let statements = subst (AllByRecursion KeepsLimits) c.first (each-statement mode t fits.limits) in
      let keeps = all-back KeepsLimits c.before (printed_line mode c.block shown ∷ c.after) statements in (
        suits.0.1,
        and_right (is_short (segments mode shown.keys))
            (nat_le (depth (value_of mode old)) nesting_limit && has_short_keys (value_of mode old)) keeps.0,
      )
