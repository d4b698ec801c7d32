-- The texts of dotted keys, key by key.
use Rattle.std.proofs.Common.{◌≡◌, refl, sym, ap, ◌∙◌, true, false, List, [], ◌∷◌, ◌++◌, append_assoc}
use Rattle.std.specs.Prelude.{codes}
use Rattle.toml_edit_model.specs.Mode.{Mode}
use Rattle.toml_edit_model.specs.Text.{Text}
use Rattle.toml_edit_model.specs.Syntax.{path_text, value_text}
use Rattle.toml_edit_model.specs.Tree.{Decor, Key, Node, key_text, node_decor, shown_prefix, shown_suffix}
use Rattle.toml_edit_model.specs.Print.{one_space, dot_prefix, dot_suffix, last_leaf, segments, segments_after, value_of}
use Rattle.toml_edit_laws.proofs.common.Tests.{append-nil}
use Rattle.toml_edit_laws.specs.PrintByVisits.{before_key, dotted_keys, line_start, pair_start}
use Rattle.toml_edit_laws.proofs.common.Lists.{append-six}

five : (a b c d e f : Text) → (a ++ (b ++ (c ++ (d ++ e)))) ++ f ≡ a ++ (b ++ (c ++ (d ++ (e ++ f))))
five a b c d e f = simp append_assoc

pub last_leaf-end : (ks : List Key) (k : Key) → last_leaf (ks ++ (k ∷ [])) ≡ k.leaf
last_leaf-end [] k = refl
last_leaf-end (j ∷ []) k = refl
last_leaf-end (j ∷ l ∷ ks) k = last_leaf-end (l ∷ ks) k

in_order : (a d b t s e v n : Text) → a ++ ((d ++ (b ++ t)) ++ (s ++ (e ++ (v ++ n)))) ≡ (a ++ (d ++ (b ++ (t ++ (s ++ e))))) ++ (v ++ n)
in_order a d b t s e v n = simp append_assoc

module _ (mode : Mode) where
  -- ---- keys before dots

  dotted_keys-after : (ks : List Key) (k : Key)
      → dotted_keys mode false (ks ++ (k ∷ [])) ≡ dotted_keys mode false ks
      ++ (dot_prefix mode k ++ (key_text k ++ (dot_suffix mode k ++ codes ".")))
  dotted_keys-after [] k = refl
  dotted_keys-after (j ∷ ks) k =
      ap (λ t. dot_prefix mode j ++ (key_text j ++ (dot_suffix mode j ++ (codes "." ++ t)))) (dotted_keys-after ks k)
      ∙ sym (five (dot_prefix mode j) (key_text j) (dot_suffix mode j) (codes ".") (dotted_keys mode false ks) (dot_prefix mode k
      ++ (key_text k ++ (dot_suffix mode k ++ codes "."))))

  -- one more key at the end
  pub dotted_keys-more : (ks : List Key) (k : Key)
      → dotted_keys mode true (ks ++ (k ∷ [])) ≡ dotted_keys mode true ks
      ++ (before_key mode ks k ++ (key_text k ++ (dot_suffix mode k ++ codes ".")))
  dotted_keys-more [] k = refl
  dotted_keys-more (j ∷ ks) k =
      ap (λ t. key_text j ++ (dot_suffix mode j ++ (codes "." ++ t))) (dotted_keys-after ks k)
      ∙ sym (five [] (key_text j) (dot_suffix mode j) (codes ".") (dotted_keys mode false ks) (dot_prefix mode k
      ++ (key_text k ++ (dot_suffix mode k ++ codes "."))))

  -- ---- whole keys

  step-after : (j l : Key) (rest : List Key)
      → path_text (segments_after mode (j ∷ l ∷ rest)) ≡ (dot_prefix mode j ++ (key_text j ++ dot_suffix mode j))
      ++ (codes "." ++ path_text (segments_after mode (l ∷ rest)))
  step-after j l [] = refl
  step-after j l (m ∷ rest) = refl

  key-after : (j : Key) (ks : List Key) (k : Key)
      → path_text (segments_after mode (j ∷ (ks ++ (k ∷ [])))) ≡ (dot_prefix mode j ++ (key_text j ++ dot_suffix mode j))
      ++ (codes "." ++ path_text (segments_after mode (ks ++ (k ∷ []))))
  key-after j [] k = refl
  key-after j (l ∷ ks) k = step-after j l (ks ++ (k ∷ []))

  step-first : (j l : Key) (rest : List Key)
      → path_text (segments mode (j ∷ l ∷ rest)) ≡ (key_text j ++ dot_suffix mode j)
      ++ (codes "." ++ path_text (segments_after mode (l ∷ rest)))
  step-first j l [] = refl
  step-first j l (m ∷ rest) = refl

  key-first : (j : Key) (ks : List Key) (k : Key)
      → path_text (segments mode (j ∷ (ks ++ (k ∷ [])))) ≡ (key_text j ++ dot_suffix mode j)
      ++ (codes "." ++ path_text (segments_after mode (ks ++ (k ∷ []))))
  key-first j [] k = refl
  key-first j (l ∷ ks) k = step-first j l (ks ++ (k ∷ []))

  path-after : (ks : List Key) (k : Key) → path_text (segments_after mode (ks ++ (k ∷ []))) ≡ dotted_keys mode false ks
      ++ (dot_prefix mode k ++ key_text k)
  path-after [] k = ap (λ t. dot_prefix mode k ++ t) (append-nil (key_text k))
  path-after (j ∷ ks) k =
      key-after j ks k
      ∙ ap (λ t. (dot_prefix mode j ++ (key_text j ++ dot_suffix mode j)) ++ (codes "." ++ t)) (path-after ks k)
      ∙ append-six (dot_prefix mode j) (key_text j) (dot_suffix mode j) (codes ".") (dotted_keys mode false ks) (dot_prefix mode k
      ++ key_text k)

  -- a key behind others
  pub path-is : (ks : List Key) (k : Key) → path_text (segments mode (ks ++ (k ∷ []))) ≡ dotted_keys mode true ks
      ++ (before_key mode ks k ++ key_text k)
  path-is [] k = append-nil (key_text k)
  path-is (j ∷ ks) k =
      key-first j ks k
      ∙ ap (λ t. (key_text j ++ dot_suffix mode j) ++ (codes "." ++ t)) (path-after ks k)
      ∙ append-six [] (key_text j) (dot_suffix mode j) (codes ".") (dotted_keys mode false ks) (dot_prefix mode k ++ key_text k)

  -- ---- lines

  -- a line or a pair up to the end of its value, in the parts that are written
  pub line_start-is : (default : Text) (ks : List Key) (k : Key) (n : Node)
      → line_start mode default (record { keys = ks ++ (k ∷ []); item = n; value = value_of mode n })
      ≡ pair_start mode default ks k n (value_text (value_of mode n))
  line_start-is default ks k n =
      ap (λ (d : Decor). shown_prefix mode default d ++ (path_text (segments mode (ks ++ (k ∷ [])))
      ++ (shown_suffix mode one_space d ++ (codes "=" ++ (shown_prefix mode one_space (node_decor n)
      ++ value_text (value_of mode n)))))) (last_leaf-end ks k)
      ∙ ap (λ (t : Text). shown_prefix mode default k.leaf
      ++ (t ++ (shown_suffix mode one_space k.leaf ++ (codes "="
      ++ (shown_prefix mode one_space (node_decor n) ++ value_text (value_of mode n)))))) (path-is ks k)
      ∙ in_order (shown_prefix mode default k.leaf) (dotted_keys mode true ks) (before_key mode ks k) (key_text k)
      (shown_suffix mode one_space k.leaf) (codes "=") (shown_prefix mode one_space (node_decor n)) (value_text (value_of mode n))
