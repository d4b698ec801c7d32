-- In the statement of a line another name for the last key changes its segment alone.
use Rattle.std.proofs.Common.{◌≡◌, refl, sym, ◌∙◌, ap, List, [], ◌∷◌, ◌++◌}
use Rattle.toml_edit_model.specs.Mode.{Mode, line_end, line_newline}
use Rattle.toml_edit_model.specs.DefaultSpelling.{key_spelling}
use Rattle.toml_edit_model.specs.Syntax.{Segment, key_line, Statement}
use Rattle.toml_edit_model.specs.Text.{Text}
use Rattle.toml_edit_model.specs.Tree.{Decor, Key, shown_prefix, shown_suffix, node_decor}
use Rattle.toml_edit_model.specs.Print.{one_space, last_leaf, segment_of, dot_prefix, dot_suffix, segments, segments_after, value_of}
use Rattle.toml_edit_model.specs.Rearranging.{renamed_key}
use Rattle.toml_edit_edit_laws.specs.Renaming.{RenamedLine}

pub last-leaf : (ks : List Key) (k : Key) → last_leaf (ks ++ (k ∷ [])) ≡ k.leaf
last-leaf [] k = refl
last-leaf (x ∷ []) k = refl
last-leaf (x ∷ y ∷ ks) k = last-leaf (y ∷ ks) k

-- two lists of segments that differ in the name of the last one
record LastDiffers (u : Text) (old new : List Segment) : Type 0 where
  pub front : List Segment
  pub last : Segment
  pub first : old ≡ front ++ (last ∷ [])
  pub second : new ≡ front ++ (record last { key = u; spelled = key_spelling u } ∷ [])

module _ (mode : Mode) (l : Key) (u : Text) where
  abbrev m : Key
  m = renamed_key u l

  behind : (x : Segment) (old new : List Segment) → LastDiffers u old new → LastDiffers u (x ∷ old) (x ∷ new)
  behind x old new d = record { front = x ∷ d.front; last = d.last; first = ap (λ z. x ∷ z) d.first; second = ap (λ z. x ∷ z) d.second }

  after-dot : (ks : List Key) → LastDiffers u (segments_after mode (ks ++ (l ∷ []))) (segments_after mode (ks ++ (m ∷ [])))
  after-dot [] = record { front = []; last = segment_of l (dot_prefix mode l) []; first = refl; second = refl }
  after-dot (x ∷ []) =
      behind (segment_of x (dot_prefix mode x) (dot_suffix mode x)) (segments_after mode (l ∷ [])) (segments_after mode (m ∷ []))
      (after-dot [])
  after-dot (x ∷ y ∷ ks) =
      behind (segment_of x (dot_prefix mode x) (dot_suffix mode x)) (segments_after mode (y ∷ (ks ++ (l ∷ [])))) (segments_after mode (y
      ∷ (ks ++ (m ∷ [])))) (after-dot (y ∷ ks))

  from-first : (ks : List Key) → LastDiffers u (segments mode (ks ++ (l ∷ []))) (segments mode (ks ++ (m ∷ [])))
  from-first [] = record { front = []; last = segment_of l [] []; first = refl; second = refl }
  from-first (x ∷ []) =
      behind (segment_of x [] (dot_suffix mode x)) (segments_after mode (l ∷ [])) (segments_after mode (m ∷ [])) (after-dot [])
  from-first (x ∷ y ∷ ks) =
      behind (segment_of x [] (dot_suffix mode x)) (segments_after mode (y ∷ (ks ++ (l ∷ [])))) (segments_after mode (y ∷ (ks ++ (m ∷ []))))
      (after-dot (y ∷ ks))

pub renamed_line : (mode : Mode) → RenamedLine mode
renamed_line mode ks l u n =
    let m : Key = renamed_key u l in
    let d = from-first mode l u ks in
    let made : Decor → Statement = λ key.
    key_line
    (record {
      leading = shown_prefix mode [] key;
      path = segments mode (ks ++ (m ∷ []));
      before_equals = shown_suffix mode one_space key;
      after_equals = shown_prefix mode one_space (node_decor n);
      trailing = line_end mode (shown_suffix mode [] (node_decor n));
    })
    (value_of mode n) (line_newline mode (shown_suffix mode [] (node_decor n))) in
    record {
      front = d.front;
      last = d.last;
      first = d.first;
      second = d.second;
      statement = ap made (last-leaf ks m ∙ sym (last-leaf ks l));
    }
