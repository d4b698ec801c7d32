-- What it means that a rule of documents that fit is broken at a place, by the parts of `FitsIn`.
use Rattle.std.specs.Prelude.{◌≡◌, ℕ, zero, suc, ◌≤◌, Bool, true, false, not, ◌&&◌, ◌||◌, List, [], ◌∷◌, ◌++◌, Contains, slice_get}
use Rattle.std.specs.Prelude.{Some}
use Rattle.std.specs.Fmt.{decimal}
use Rattle.toml_edit_model.specs.Mode.{Mode}
use Rattle.toml_edit_model.specs.Text.{Text, one}
use Rattle.toml_edit_model.specs.Trivia.{IsWholeTrivia, IsFinalTrivia}
use Rattle.toml_edit_model.specs.Syntax.{nesting_limit, is_short}
use Rattle.toml_edit_model.specs.Lists.{item_list}
use Rattle.toml_edit_model.specs.Tree.{ArrayFields, InlineFields, Node, list, inline, Items, Slots, Tree, shown_raw, is_value_node}
use Rattle.toml_edit_model.specs.HeaderOrder.{Visit, visit_of, is_root}
use Rattle.toml_edit_model.specs.Print.{Line, segments, lines_of, inside_lines, has_header, root_prefix, root_suffix}
use Rattle.toml_edit_model.specs.Fits.{LineSuits, ElementSuits, EndsLine, HeaderSuits, is_too_late, headed}
use Rattle.toml_edit_model.specs.Keys.{names}
use Rattle.toml_edit_fits.specs.declared.misfit.FitRule.{FitRule}
use Rattle.toml_edit_fits.specs.declared.misfit.FitRule.TheVariants as rule
use Rattle.toml_edit_fits.specs.Misfits.{MisfitView, Located, located_slots, misfits}

-- the tables that the walk enters, the root first, with the paths to them
abbrev pub located : Tree → List Located
located t = ([], visit_of [] [] false t.root t.slots) ∷ located_slots t.slots [] []

-- in the list, the first comes before the second
pub record ComesBefore {A : Type 0} (xs : List A) (x y : A) : Type 0 where
  pub front : List A
  pub back : List A
  pub split : xs ≡ front ++ (x ∷ back)
  pub later : Contains back y

-- A part of a document: what is around the root, a table, a line or a pair, an element of an array,
-- and a value; the last three inside so many brackets.
pub data Part : Type 0 where
  the_root : Part
  a_table : Visit → Part
  a_line : ℕ → Line → Part
  an_element : ℕ → Node → Part
  a_value : ℕ → Node → Part

module _ (mode : Mode) (t : Tree) where
  -- A dotted table has no lines of its own. Those of the root are looked at even if it is dotted.
  abbrev pub has_lines : Visit → Bool
  has_lines v = is_root v || not v.fields.is_dotted

  -- the path leads to the part
  pub data IsAt : List Text → Part → Type 0 where
    root_at : IsAt [] the_root
    table_at : (x : Located) → Contains (located t) x → IsAt x.0 (a_table x.1)
    line_at : (p : List Text) (v : Visit) (l : Line) → IsAt p (a_table v) → has_lines v ≡ true
        → Contains (lines_of mode v) l → IsAt (p ++ names l.keys) (a_line 0 l)
    pair_at : (p : List Text) (n : ℕ) (f : InlineFields) (ss : Slots) (l : Line)
        → IsAt p (a_value n (inline f ss)) → Contains (inside_lines mode ss []) l
        → IsAt (p ++ names l.keys) (a_line (suc n) l)
    element_at : (p : List Text) (n : ℕ) (f : ArrayFields) (xs : Items) (i : ℕ) (x : Node)
        → IsAt p (a_value n (list f xs)) → slice_get (item_list xs) i ≡ Some x
        → is_value_node x ≡ true → IsAt (p ++ one (decimal i)) (an_element (suc n) x)
    line_value_at : (p : List Text) (n : ℕ) (l : Line) → IsAt p (a_line n l)
        → IsAt p (a_value n l.item)
    element_value_at : (p : List Text) (n : ℕ) (x : Node) → IsAt p (an_element n x)
        → IsAt p (a_value n x)

  -- after the value of a line, and inside brackets
  abbrev pub MayFollow : ℕ → Text → Type 0
  MayFollow zero x = EndsLine mode x
  MayFollow (suc n) x = IsWholeTrivia x

  -- What fits is in order, undotted and within the limits, and its decors suit their places. This
  -- part isn't so.
  abbrev pub Breaks : Part → FitRule → Type 0
  Breaks the_root rule.Dotted = t.root.is_dotted ≡ true
  Breaks the_root rule.Decor =
      IsWholeTrivia (root_prefix mode t) × IsWholeTrivia (root_suffix mode t)
      × IsFinalTrivia (shown_raw mode t.trailing) → ⊥
  Breaks (a_table v) rule.Dotted = (v.is_element && v.fields.is_dotted) ≡ true
  Breaks (a_table v) rule.Decor = (has_header mode v ≡ true) × (HeaderSuits mode v → ⊥)
  Breaks (a_table v) rule.Limits =
      (has_header mode v ≡ true) × (is_short (segments mode v.keys) ≡ false)
  Breaks (a_table v) rule.Order =
      (w : Visit) × ComesBefore (headed mode t) v w × (is_too_late v w ≡ true)
  Breaks (a_line n l) rule.Decor = LineSuits mode (MayFollow n) l.keys l.item → ⊥
  Breaks (a_line n l) rule.Limits = is_short (segments mode l.keys) ≡ false
  Breaks (an_element n x) rule.Decor = ElementSuits mode x → ⊥
  Breaks (a_value n (list f xs)) rule.Decor = IsWholeTrivia (shown_raw mode f.trailing) → ⊥
  Breaks (a_value n (list f xs)) rule.Limits = nesting_limit ≤ n
  Breaks (a_value n (inline f ss)) rule.Decor = IsWholeTrivia (shown_raw mode f.trailing) → ⊥
  Breaks (a_value n (inline f ss)) rule.Limits = nesting_limit ≤ n
  Breaks _ _ = ⊥

  -- the rule is broken at the path
  pub record IsBrokenAt (p : List Text) (r : FitRule) : Type 0 where
    pub part : Part
    pub place : IsAt p part
    pub breaks : Breaks part r

-- each misfit is a place where its rule is broken
abbrev pub MisfitsAreBroken : Type 0
MisfitsAreBroken =
    (mode : Mode) (t : Tree) (m : MisfitView) → Contains (misfits mode t) m
    → IsBrokenAt mode t (names m.path) m.rule
