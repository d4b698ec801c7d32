-- A document without its trivia and the spelling of its keys: it is the same, laid out or not.
use Rattle.std.proofs.Common.{◌≡◌, refl, ap, ◌∙◌, ℕ, suc, Bool, true, false, List, [], ◌∷◌, Option, Some, None}
use Rattle.std.specs.Prelude.{if◌then◌else◌, map}
use Rattle.toml_edit_model.specs.Paths.{Path, to_element}
use Rattle.toml_edit_model.specs.Syntax.{Segment, Around, Frame, Value, scalar, array, inline_table, Elements, no_elements, element, Pairs}
use Rattle.toml_edit_model.specs.Syntax.{no_pairs, pair, Statement, key_line, header}
use Rattle.toml_edit_fmt_laws.specs.Rules.{Rules, line_depth}
use Rattle.toml_edit_fmt_laws.specs.Laying.{leading, line_rest, usual_pad}
use Rattle.toml_edit_fmt_laws.specs.Formatted.{laid_path, laid_frame, used_before, Inside, in_array, in_inline, inner_depth, inner_room, laid_value, laid_elements, laid_pairs}
use Rattle.toml_edit_fmt_laws.specs.Formatted.{State, reached, stays, leading_of, after, laid_statement, lay, laid_statements}

abbrev pub bone : Segment → Segment
bone s = record { before = []; key = s.key; spelled = []; after = [] }

abbrev pub bone_path : List Segment → List Segment
bone_path p = map bone p

abbrev pub bone_frame : Frame → Frame
bone_frame f = record { leading = []; path = bone_path f.path; before_equals = []; after_equals = []; trailing = [] }

abbrev pub bare_around : Around
bare_around = record { before = []; after = [] }

abbrev mutual
  pub bones : Value → Value
  bones (scalar s t) = scalar s t
  bones (array es comma t) = array (bone_elements es) false []
  bones (inline_table ps comma t) = inline_table (bone_pairs ps) false []

  pub bone_elements : Elements → Elements
  bone_elements no_elements = no_elements
  bone_elements (element a v es) = element bare_around (bones v) (bone_elements es)

  pub bone_pairs : Pairs → Pairs
  bone_pairs no_pairs = no_pairs
  bone_pairs (pair f v ps) = pair (bone_frame f) (bones v) (bone_pairs ps)

abbrev pub skeleton : Statement → Statement
skeleton (key_line f v end) = key_line (bone_frame f) (bones v) []
skeleton (header h end) =
    header (record {
      leading = [];
      is_array = h.is_array;
      opening = [];
      path = bone_path h.path;
      closing = [];
      trailing = [];
    }) []

abbrev framed : List Segment → Frame
framed p = record { leading = []; path = p; before_equals = []; after_equals = []; trailing = [] }

module _ (r : Rules) where
  path-bones : (p : List Segment) → bone_path (laid_path r p) ≡ bone_path p
  path-bones [] = refl
  path-bones (s ∷ p) = ap (λ q. bone s ∷ q) (path-bones p)

  module _ (pad : Path → ℕ) where
    mutual
      value-bones : (p : Path) (depth : ℕ) (room : Option ℕ) (v : Value) → bones (laid_value r pad p depth room v) ≡ bones v
      value-bones p depth room (scalar s t) = refl
      value-bones p depth room (array es comma t) =
          ap (λ xs. array xs false []) (elements-bones (in_array r pad p depth room es comma t) 0 (usual_pad r.comments) es)
      value-bones p depth room (inline_table ps comma t) =
          ap (λ xs. inline_table xs false []) (pairs-bones (in_inline r pad p depth ps comma t) 0 (usual_pad r.comments) ps)

      elements-bones : (x : Inside) (i n : ℕ) (es : Elements) → bone_elements (laid_elements r pad x i n es) ≡ bone_elements es
      elements-bones x i n no_elements = refl
      elements-bones x i n (element a v es) =
          ap (λ w. element bare_around w (bone_elements (laid_elements r pad x (suc i) (pad (to_element x.path i)) es)))
          (value-bones (to_element x.path i) (inner_depth x.layout x.depth) (inner_room r x.layout x.depth) v)
          ∙ ap (element bare_around (bones v)) (elements-bones x (suc i) (pad (to_element x.path i)) es)

      pub pairs-bones : (x : Inside) (i n : ℕ) (ps : Pairs) → bone_pairs (laid_pairs r pad x i n ps) ≡ bone_pairs ps
      pairs-bones x i n no_pairs = refl
      pairs-bones x i n (pair f v ps) =
          ap (λ q. pair (framed q) (bones (laid_value r pad (to_element x.path i) (inner_depth x.layout x.depth) None v))
          (bone_pairs (laid_pairs r pad x (suc i) (pad (to_element x.path i)) ps))) (path-bones f.path)
          ∙ ap (λ w. pair (bone_frame f) w (bone_pairs (laid_pairs r pad x (suc i) (pad (to_element x.path i)) ps)))
          (value-bones (to_element x.path i) (inner_depth x.layout x.depth) None v)
          ∙ ap (pair (bone_frame f) (bones v)) (pairs-bones x (suc i) (pad (to_element x.path i)) ps)

    pub statement-bones : (st : State) (s : Statement) → skeleton (lay r pad st s) ≡ skeleton s
    statement-bones st s = by_test (stays (reached r st (leading_of s))) s
      where
        by_test : (b : Bool) (s : Statement) → skeleton (if b then s else laid_statement r pad st s) ≡ skeleton s
        by_test true s = refl
        by_test false (key_line f v end) =
            let depth = line_depth r st.keys in
            let frame = laid_frame r (leading r st.is_start depth f.leading) (line_rest r (pad []) f.trailing) f in
            let room = Some (used_before frame) in
            ap (λ q. key_line (framed q) (bones (laid_value r pad [] depth room v)) []) (path-bones f.path)
            ∙ ap (λ w. key_line (bone_frame f) w []) (value-bones [] depth room v)
        by_test false (header h end) =
            ap (λ q. header (record {
              leading = [];
              is_array = h.is_array;
              opening = [];
              path = q;
              closing = [];
              trailing = [];
            }) []) (path-bones h.path)

  pub statements-bones : (pad : ℕ → Path → ℕ) (n : ℕ) (st : State) (ss : List Statement)
      → map skeleton (laid_statements r pad n st ss) ≡ map skeleton ss
  statements-bones pad n st [] = refl
  statements-bones pad n st (s ∷ rest) =
      ap (λ x. x ∷ map skeleton (laid_statements r pad (suc n) (after r st s) rest)) (statement-bones (pad n) st s)
      ∙ ap (λ xs. skeleton s ∷ xs) (statements-bones pad (suc n) (after r st s) rest)
