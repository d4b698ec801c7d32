-- A formatted document is accepted exactly where the document is: its keys, its values and their order stay.
use Rattle.std.proofs.Common.{◌≡◌, refl, sym, ap, ◌∙◌, ℕ, suc, true, List, [], ◌∷◌}
use Rattle.std.specs.Prelude.{◌&&◌, ◌+◌, nat_le, max, length, map}
use Rattle.std.specs.List.{list_all}
use Rattle.toml_edit_model.specs.Accepted.{all_agree, has_agreeing_pairs, elements_have_agreeing_pairs, pairs_have_agreeing_pairs}
use Rattle.toml_edit_model.specs.Accepted.{is_sound, is_sound_in, is_accepted}
use Rattle.toml_edit_model.specs.Paths.{PairSource, Context, start_context, context_after, placed_from}
use Rattle.toml_edit_model.specs.Paths.{mentions_of, source_of, line_mentions, pair_mentions, header_role_of, path_start}
use Rattle.toml_edit_model.specs.Roles.{may_meet, may_meet_inline}
use Rattle.toml_edit_model.specs.Syntax.{Segment, Frame, Value, scalar, array, inline_table, Elements, no_elements, element, Pairs}
use Rattle.toml_edit_model.specs.Syntax.{no_pairs, pair, Statement, key_line, header, depth, elements_depth, pairs_depth}
use Rattle.toml_edit_model.specs.Syntax.{nesting_limit, has_short_keys, elements_have_short_keys, pairs_have_short_keys, is_short}
use Rattle.toml_edit_model.specs.Syntax.{keeps_ranges, elements_keep_ranges, pairs_keep_ranges, keeps_limits, is_ranged, frame_text, value_text}
use Rattle.toml_edit_model.specs.Version.{v1_1}
use Rattle.toml_edit_laws.proofs.common.Cores.{cores, keys_of_segments, line_cores}
use Rattle.toml_edit_laws.proofs.normal_texts.Agreeing.{all_agree-alike}
use Rattle.toml_edit_laws.proofs.normal_texts.Cores.{header_cores, line-cores, header-cores}
use Rattle.toml_edit_fmt_laws.specs.Formatted.{start, laid_statements}
use Rattle.toml_edit_fmt_laws.specs.Promises.{AcceptedAlike}
use Rattle.toml_edit_fmt_laws.proofs.Bones.{bone_path, bone_frame, bones, bone_elements, bone_pairs, skeleton, statements-bones}
use Rattle.toml_edit_fmt_laws.proofs.Means.{SameContext, context-bones}

-- ---- keys

keys-bones : (p : List Segment) → keys_of_segments (bone_path p) ≡ keys_of_segments p
keys-bones [] = refl
keys-bones (s ∷ p) = ap (λ ks. s.key ∷ ks) (keys-bones p)

short-bones : (p : List Segment) → is_short (bone_path p) ≡ is_short p
short-bones p = ap (λ n. nat_le n nesting_limit) (length-bones p)
  where
    length-bones : (q : List Segment) → length (bone_path q) ≡ length q
    length-bones [] = refl
    length-bones (s ∷ q) = ap suc (length-bones q)

-- ---- values

mutual
  value-depth : (v : Value) → depth (bones v) ≡ depth v
  value-depth (scalar s t) = refl
  value-depth (array es comma t) = ap suc (elements-depth es)
  value-depth (inline_table ps comma t) = ap suc (pairs-depth ps)

  elements-depth : (es : Elements) → elements_depth (bone_elements es) ≡ elements_depth es
  elements-depth no_elements = refl
  elements-depth (element a v es) =
      ap (λ n. max n (elements_depth (bone_elements es))) (value-depth v) ∙ ap (λ n. max (depth v) n) (elements-depth es)

  pairs-depth : (ps : Pairs) → pairs_depth (bone_pairs ps) ≡ pairs_depth ps
  pairs-depth no_pairs = refl
  pairs-depth (pair f v ps) =
      ap (λ n. max n (pairs_depth (bone_pairs ps))) (value-depth v) ∙ ap (λ n. max (depth v) n) (pairs-depth ps)

mutual
  value-short : (v : Value) → has_short_keys (bones v) ≡ has_short_keys v
  value-short (scalar s t) = refl
  value-short (array es comma t) = elements-short es
  value-short (inline_table ps comma t) = pairs-short ps

  elements-short : (es : Elements) → elements_have_short_keys (bone_elements es) ≡ elements_have_short_keys es
  elements-short no_elements = refl
  elements-short (element a v es) =
      ap (λ b. b && elements_have_short_keys (bone_elements es)) (value-short v)
      ∙ ap (λ b. has_short_keys v && b) (elements-short es)

  pairs-short : (ps : Pairs) → pairs_have_short_keys (bone_pairs ps) ≡ pairs_have_short_keys ps
  pairs-short no_pairs = refl
  pairs-short (pair f v ps) =
      ap (λ b. b && (has_short_keys (bones v) && pairs_have_short_keys (bone_pairs ps))) (short-bones f.path)
      ∙ ap (λ b. is_short f.path && (b && pairs_have_short_keys (bone_pairs ps))) (value-short v)
      ∙ ap (λ b. is_short f.path && (has_short_keys v && b)) (pairs-short ps)

mutual
  value-ranges : (v : Value) → keeps_ranges (bones v) ≡ keeps_ranges v
  value-ranges (scalar s t) = refl
  value-ranges (array es comma t) = elements-ranges es
  value-ranges (inline_table ps comma t) = pairs-ranges ps

  elements-ranges : (es : Elements) → elements_keep_ranges (bone_elements es) ≡ elements_keep_ranges es
  elements-ranges no_elements = refl
  elements-ranges (element a v es) =
      ap (λ b. b && elements_keep_ranges (bone_elements es)) (value-ranges v) ∙ ap (λ b. keeps_ranges v && b) (elements-ranges es)

  pairs-ranges : (ps : Pairs) → pairs_keep_ranges (bone_pairs ps) ≡ pairs_keep_ranges ps
  pairs-ranges no_pairs = refl
  pairs-ranges (pair f v ps) =
      ap (λ b. b && pairs_keep_ranges (bone_pairs ps)) (value-ranges v) ∙ ap (λ b. keeps_ranges v && b) (pairs-ranges ps)

-- ---- pairs that agree

source_at : Frame → Value → PairSource
source_at f v = record { frame = f; value = v }

pub pair-cores : (m n : ℕ) (ps : Pairs) → map cores (pair_mentions m (bone_pairs ps)) ≡ map cores (pair_mentions n ps)
unfolding source_at
pair-cores m n no_pairs = refl
pair-cores m n (pair f v ps) =
    let g = bone_frame f in
    let w = bones v in
    let next = m + length (frame_text g (value_text w)) + 1 in
    let more = n + length (frame_text f (value_text v)) + 1 in
    ap (λ c. c ∷ map cores (pair_mentions next (bone_pairs ps)))
    (line-cores (source_at g w) (m + length g.leading) [] (bone_path f.path) ∙ ap (line_cores []) (keys-bones f.path)
    ∙ sym (line-cores (source_at f v) (n + length f.leading) [] f.path))
    ∙ ap (λ cs. cores (line_mentions (source_at f v) (n + length f.leading) [] f.path) ∷ cs) (pair-cores next more ps)

mutual
  value-agrees : (v : Value) → has_agreeing_pairs (bones v) ≡ has_agreeing_pairs v
  value-agrees (scalar s t) = refl
  value-agrees (array es comma t) = elements-agree es
  value-agrees (inline_table ps comma t) =
      ap (λ b. b && pairs_have_agreeing_pairs (bone_pairs ps))
      (all_agree-alike may_meet_inline (pair_mentions 0 (bone_pairs ps)) (pair_mentions 0 ps) (pair-cores 0 0 ps))
      ∙ ap (λ b. all_agree may_meet_inline (pair_mentions 0 ps) && b) (pairs-agree ps)

  elements-agree : (es : Elements) → elements_have_agreeing_pairs (bone_elements es) ≡ elements_have_agreeing_pairs es
  elements-agree no_elements = refl
  elements-agree (element a v es) =
      ap (λ b. b && elements_have_agreeing_pairs (bone_elements es)) (value-agrees v)
      ∙ ap (λ b. has_agreeing_pairs v && b) (elements-agree es)

  pairs-agree : (ps : Pairs) → pairs_have_agreeing_pairs (bone_pairs ps) ≡ pairs_have_agreeing_pairs ps
  pairs-agree no_pairs = refl
  pairs-agree (pair f v ps) =
      ap (λ b. b && pairs_have_agreeing_pairs (bone_pairs ps)) (value-agrees v)
      ∙ ap (λ b. has_agreeing_pairs v && b) (pairs-agree ps)

-- ---- statements

sound-bones : (s : Statement) → is_sound (skeleton s) ≡ is_sound s
sound-bones (key_line f v end) =
    ap (λ b. ((b && (nat_le (depth (bones v)) nesting_limit && has_short_keys (bones v)))
    && keeps_ranges (bones v)) && has_agreeing_pairs (bones v)) (short-bones f.path)
    ∙ ap (λ n. ((is_short f.path && (nat_le n nesting_limit && has_short_keys (bones v)))
    && keeps_ranges (bones v)) && has_agreeing_pairs (bones v)) (value-depth v)
    ∙ ap (λ b. ((is_short f.path && (nat_le (depth v) nesting_limit && b))
    && keeps_ranges (bones v)) && has_agreeing_pairs (bones v)) (value-short v)
    ∙ ap (λ b. (keeps_limits (key_line f v end) && b) && has_agreeing_pairs (bones v)) (value-ranges v)
    ∙ ap (λ b. (keeps_limits (key_line f v end) && is_ranged (key_line f v end)) && b) (value-agrees v)
sound-bones (header h end) = ap (λ b. (b && true) && true) (short-bones h.path)

pub all-sound : (c e : Context) (ss : List Statement)
    → list_all (λ p. is_sound_in v1_1 p.source.statement) (placed_from c (map skeleton ss))
    ≡ list_all (λ p. is_sound_in v1_1 p.source.statement) (placed_from e ss)
all-sound c e [] = refl
all-sound c e (s ∷ rest) =
    let next = context_after c (skeleton s) in
    ap (λ b. b && list_all (λ p. is_sound_in v1_1 p.source.statement) (placed_from next (map skeleton rest)))
    (by_source c (skeleton s) ∙ sound-bones s ∙ sym (by_source e s))
    ∙ ap (λ b. is_sound_in v1_1 (source_of e s).statement && b) (all-sound next (context_after e s) rest)
  where
    by_source : (d : Context) (x : Statement) → is_sound_in v1_1 (source_of d x).statement ≡ is_sound x
    by_source d (key_line f v end) = refl
    by_source d (header h end) = refl

pub statement-cores : (c e : Context) (s : Statement) → SameContext c e → cores (mentions_of c (skeleton s)) ≡ cores (mentions_of e s)
statement-cores c e (key_line f v end) h =
    let t = skeleton (key_line f v end) in
    line-cores (source_of c t) (c.start + path_start t) c.block (bone_path f.path) ∙ ap (line_cores c.block) (keys-bones f.path)
    ∙ ap (λ b. line_cores b (keys_of_segments f.path)) h.1
    ∙ sym (line-cores (source_of e (key_line f v end)) (e.start + path_start (key_line f v end)) e.block f.path)
statement-cores c e (header x end) h =
    let t = skeleton (header x end) in
    header-cores (source_of c t) c.arrays (header_role_of x) (c.start + path_start t) [] (bone_path x.path)
    ∙ ap (header_cores c.arrays (header_role_of x) []) (keys-bones x.path)
    ∙ ap (λ a. header_cores a (header_role_of x) [] (keys_of_segments x.path)) h.0
    ∙ sym (header-cores (source_of e (header x end)) e.arrays (header_role_of x) (e.start + path_start (header x end)) [] x.path)

pub all-cores : (c e : Context) (ss : List Statement) → SameContext c e
    → map cores (map (λ p. p.mentions) (placed_from c (map skeleton ss))) ≡ map cores (map (λ p. p.mentions) (placed_from e ss))
all-cores c e [] h = refl
all-cores c e (s ∷ rest) h =
    ap (λ x. x ∷ map cores (map (λ p. p.mentions) (placed_from (context_after c (skeleton s)) (map skeleton rest)))) (statement-cores c e s h)
    ∙ ap (λ xs. cores (mentions_of e s) ∷ xs)
    (all-cores (context_after c (skeleton s)) (context_after e s) rest (context-bones c e s h))

pub accepted_alike : AcceptedAlike
unfolding is_accepted
accepted_alike r pad d =
    let c = start_context d in
    let ss = laid_statements r pad 0 start d.statements in
    let same = statements-bones r pad 0 start d.statements in
    let ps = placed_from c ss in
    let qs = placed_from c d.statements in
    ap (λ b. b && all_agree may_meet (map (λ p. p.mentions) ps))
    (sym (all-sound c c ss) ∙ ap (λ xs. list_all (λ p. is_sound_in v1_1 p.source.statement) (placed_from c xs)) same
    ∙ all-sound c c d.statements)
    ∙ ap (λ b. list_all (λ p. is_sound_in v1_1 p.source.statement) qs && b)
    (all_agree-alike may_meet (map (λ p. p.mentions) ps) (map (λ p. p.mentions) qs)
    (sym (all-cores c c ss (refl, refl)) ∙ ap (λ xs. map cores (map (λ p. p.mentions) (placed_from c xs))) same
    ∙ all-cores c c d.statements (refl, refl)))
