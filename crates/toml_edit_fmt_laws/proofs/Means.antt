-- The meaning is in the keys and the values, which stay.
use Rattle.std.proofs.Common.{◌≡◌, refl, sym, ap, ◌∙◌, ℕ, suc, List, [], ◌∷◌, ◌++◌}
use Rattle.std.specs.Prelude.{if◌then◌else◌, map}
use Rattle.toml_edit_model.specs.Meaning.{Fact, fact, a_table, an_array, below_keys, value_facts, elements_facts, pairs_facts, tables_along}
use Rattle.toml_edit_model.specs.Meaning.{element_header_facts, statement_facts, facts_from, meaning}
use Rattle.toml_edit_model.specs.Paths.{Path, to_key, to_element, Context, start_context, context_after, header_path, in_last, elements_at}
use Rattle.toml_edit_model.specs.Syntax.{Segment, Value, scalar, array, inline_table, Elements, no_elements, element, Pairs}
use Rattle.toml_edit_model.specs.Syntax.{no_pairs, pair, Statement, key_line, header}
use Rattle.toml_edit_fmt_laws.specs.Formatted.{start, laid_statements}
use Rattle.toml_edit_fmt_laws.specs.Promises.{MeansTheSame}
use Rattle.toml_edit_fmt_laws.proofs.Bones.{bone_path, bones, bone_elements, bone_pairs, skeleton, statements-bones}

-- ---- keys

below-bones : (p : Path) (q : List Segment) (last : Path → List Fact) → below_keys p (bone_path q) last ≡ below_keys p q last
below-bones p [] last = refl
below-bones p (s ∷ []) last = refl
below-bones p (s ∷ t ∷ rest) last = ap (λ fs. fact (to_key p s.key) a_table ∷ fs) (below-bones (to_key p s.key) (t ∷ rest) last)

below-same : (p : Path) (q : List Segment) (f g : Path → List Fact) → ((o : Path) → f o ≡ g o) → below_keys p q f ≡ below_keys p q g
below-same p [] f g h = h p
below-same p (s ∷ []) f g h = h (to_key p s.key)
below-same p (s ∷ t ∷ rest) f g h =
    ap (λ fs. fact (to_key p s.key) a_table ∷ fs) (below-same (to_key p s.key) (t ∷ rest) f g h)

pub path-bones-at : (arrays : List Path) (p : Path) (q : List Segment) → header_path arrays p (bone_path q) ≡ header_path arrays p q
path-bones-at arrays p [] = refl
path-bones-at arrays p (s ∷ []) = refl
path-bones-at arrays p (s ∷ t ∷ rest) =
    path-bones-at arrays (in_last (elements_at arrays (to_key p s.key)) (to_key p s.key)) (t ∷ rest)

-- ---- values

mutual
  value-means : (v : Value) (p : Path) → value_facts (bones v) p ≡ value_facts v p
  value-means (scalar s t) p = refl
  value-means (array es comma t) p = ap (λ fs. fact p an_array ∷ fs) (elements-mean es p 0)
  value-means (inline_table ps comma t) p = ap (λ fs. fact p a_table ∷ fs) (pairs-mean ps p)

  elements-mean : (es : Elements) (p : Path) (n : ℕ) → elements_facts (bone_elements es) p n ≡ elements_facts es p n
  elements-mean no_elements p n = refl
  elements-mean (element a v es) p n =
      ap (λ fs. fs ++ elements_facts (bone_elements es) p (suc n)) (value-means v (to_element p n))
      ∙ ap (λ fs. value_facts v (to_element p n) ++ fs) (elements-mean es p (suc n))

  pairs-mean : (ps : Pairs) (p : Path) → pairs_facts (bone_pairs ps) p ≡ pairs_facts ps p
  pairs-mean no_pairs p = refl
  pairs-mean (pair f v ps) p =
      ap (λ fs. fs ++ pairs_facts (bone_pairs ps) p)
      (below-bones p f.path (value_facts (bones v))
      ∙ below-same p f.path (value_facts (bones v)) (value_facts v) (λ o. value-means v o))
      ∙ ap (λ fs. below_keys p f.path (value_facts v) ++ fs) (pairs-mean ps p)

-- ---- statements: two contexts with the same arrays and the same block

abbrev pub SameContext : Context → Context → Type 0
SameContext c e = (c.arrays ≡ e.arrays) × (c.block ≡ e.block)

statement-means : (c e : Context) (s : Statement) → SameContext c e → statement_facts c (skeleton s) ≡ statement_facts e s
statement-means c e (key_line f v end) h =
    ap (λ b. tables_along [] b ++ below_keys b (bone_path f.path) (value_facts (bones v))) h.1
    ∙ ap (λ fs. tables_along [] e.block ++ fs)
    (below-bones e.block f.path (value_facts (bones v))
    ∙ below-same e.block f.path (value_facts (bones v)) (value_facts v) (λ o. value-means v o))
statement-means c e (header s end) h =
    ap (λ a. let p = header_path a [] (bone_path s.path) in
    if s.is_array then element_header_facts p (elements_at a p) else tables_along [] p) h.0
    ∙ ap (λ p. if s.is_array then element_header_facts p (elements_at e.arrays p) else tables_along [] p)
    (path-bones-at e.arrays [] s.path)

pub context-bones : (c e : Context) (s : Statement) → SameContext c e → SameContext (context_after c (skeleton s)) (context_after e s)
context-bones c e (key_line f v end) h = h
context-bones c e (header s end) h = (
  ap (λ a. if s.is_array then header_path a [] (bone_path s.path) ∷ a else a) h.0
      ∙ ap (λ p. if s.is_array then p ∷ e.arrays else e.arrays) (path-bones-at e.arrays [] s.path),
  ap (λ a. let p = header_path a [] (bone_path s.path) in
      if s.is_array then to_element p (elements_at a p) else p) h.0
      ∙ ap (λ p. if s.is_array then to_element p (elements_at e.arrays p) else p) (path-bones-at e.arrays [] s.path),
)

pub statements-mean : (c e : Context) (ss : List Statement) → SameContext c e → facts_from c (map skeleton ss) ≡ facts_from e ss
statements-mean c e [] h = refl
statements-mean c e (s ∷ rest) h =
    ap (λ fs. fs ++ facts_from (context_after c (skeleton s)) (map skeleton rest)) (statement-means c e s h)
    ∙ ap (λ fs. statement_facts e s ++ fs)
    (statements-mean (context_after c (skeleton s)) (context_after e s) rest (context-bones c e s h))

pub means_the_same : MeansTheSame
unfolding meaning
means_the_same r pad d =
    let c = start_context d in
    let ss = laid_statements r pad 0 start d.statements in
    ap (λ fs. fact [] a_table ∷ fs)
    (sym (statements-mean c c ss (refl, refl)) ∙ ap (facts_from c) (statements-bones r pad 0 start d.statements)
    ∙ statements-mean c c d.statements (refl, refl))
