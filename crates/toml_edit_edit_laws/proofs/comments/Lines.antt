-- The decors before and after a line in its statement.
use Rattle.std.proofs.Common.{◌≡◌, refl, sym, ◌∙◌, ap, true, List, [], ◌∷◌, ◌++◌}
use Rattle.toml_edit_model.specs.Mode.{Mode, line_end, line_newline}
use Rattle.toml_edit_model.specs.Syntax.{Segment, key_line, Statement, Value}
use Rattle.toml_edit_model.specs.Text.{Text}
use Rattle.toml_edit_model.specs.Tree.{Decor, Key, Node, nothing, leaf, list, inline, table, tables, shown_prefix, shown_suffix, shown_side}
use Rattle.toml_edit_model.specs.Tree.{node_decor, is_value_node}
use Rattle.toml_edit_model.specs.Print.{one_space, last_leaf, segment_of, dot_prefix, dot_suffix, segments, segments_after, value_of}
use Rattle.toml_edit_model.specs.Conversions.{with_decor}
use Rattle.toml_edit_edit_laws.proofs.renaming.Lines.{last-leaf}
use Rattle.toml_edit_edit_laws.specs.Comments.{BeforeLine, AfterLine}

with-decor : (d : Decor) (n : Node) → is_value_node n ≡ true → node_decor (with_decor d n) ≡ d
with-decor d (leaf s r e) h = refl
with-decor d (list f xs) h = refl
with-decor d (inline f ss) h = refl
with-decor d (table f ss) h = absurd cc
with-decor d (tables e xs) h = absurd cc
with-decor d nothing h = absurd cc

module _ (mode : Mode) where
  same-value : (d : Decor) (n : Node) → value_of mode (with_decor d n) ≡ value_of mode n
  same-value d (leaf s r e) = refl
  same-value d (list f xs) = refl
  same-value d (inline f ss) = refl
  same-value d (table f ss) = refl
  same-value d (tables e xs) = refl
  same-value d nothing = refl

  -- the decor at the end of a path is in no segment
  module _ (l : Key) (d : Decor) where
    abbrev m : Key
    m = record l { leaf = d }

    same-after : (ks : List Key) → segments_after mode (ks ++ (m ∷ [])) ≡ segments_after mode (ks ++ (l ∷ []))
    same-after [] = refl
    same-after (x ∷ []) = refl
    same-after (x ∷ y ∷ ks) = ap (λ z. segment_of x (dot_prefix mode x) (dot_suffix mode x) ∷ z) (same-after (y ∷ ks))

    pub same-segments : (ks : List Key) → segments mode (ks ++ (m ∷ [])) ≡ segments mode (ks ++ (l ∷ []))
    same-segments [] = refl
    same-segments (x ∷ []) = refl
    same-segments (x ∷ y ∷ ks) = ap (λ z. segment_of x [] (dot_suffix mode x) ∷ z) (same-after (y ∷ ks))

  pub before_line : BeforeLine mode
  before_line ks l n p =
      let d : Decor = record l.leaf { prefix = p } in
      let m : Key = record l { leaf = d } in
      let made : Text → List Segment → Decor → Statement = λ leading path key.
      key_line
      (record {
        leading = leading;
        path = path;
        before_equals = shown_suffix mode one_space key;
        after_equals = shown_prefix mode one_space (node_decor n);
        trailing = line_end mode (shown_suffix mode [] (node_decor n));
      })
      (value_of mode n) (line_newline mode (shown_suffix mode [] (node_decor n))) in
      ap (λ z. made (shown_prefix mode [] z) (segments mode (ks ++ (m ∷ []))) z) (last-leaf ks m)
      ∙ ap (λ z. made (shown_side mode [] p) z l.leaf) (same-segments l d ks)
      ∙ ap (λ z. made (shown_side mode [] p) (segments mode (ks ++ (l ∷ []))) z) (sym (last-leaf ks l))

  pub after_line : AfterLine mode
  after_line ks n p h =
      let d : Decor = record (node_decor n) { suffix = p } in
      let made : Decor → Value → Statement = λ x v.
      key_line
      (record {
        leading = shown_prefix mode [] (last_leaf ks);
        path = segments mode ks;
        before_equals = shown_suffix mode one_space (last_leaf ks);
        after_equals = shown_prefix mode one_space x;
        trailing = line_end mode (shown_suffix mode [] x);
      })
      v (line_newline mode (shown_suffix mode [] x)) in
      ap (λ x. made x (value_of mode (with_decor d n))) (with-decor d n h) ∙ ap (made d) (same-value d n)
