-- Equal texts have equal values in front of what ends them.
use Rattle.std.proofs.Common.{◌≡◌, ℕ, Bool, true, false, List, [], ◌∷◌, ◌++◌, refl, sym, ap, subst, ◌∙◌, inl, inr, arith, append_assoc}
use Rattle.std.proofs.lemmas.Bool.{false≢true}
use Rattle.toml_edit_model.specs.Text.{Text}
use Rattle.toml_edit_model.specs.Trivia.{is_blank, IsWholeTrivia}
use Rattle.toml_edit_model.specs.Syntax.{Segment, Around, Frame, Value, scalar, array, inline_table, Elements, no_elements, element, Pairs}
use Rattle.toml_edit_model.specs.Syntax.{no_pairs, pair, path_text, frame_text, comma_text, value_text, elements_text, pairs_text, IsFrame}
use Rattle.toml_edit_model.specs.Syntax.{IsClose, has_elements, has_pairs, IsValue, AreElements, ArePairs}
use Rattle.toml_edit_laws.specs.reading.ScalarReading.{ends_scalar}
use Rattle.toml_edit_laws.proofs.common.Trivia.{close-trivia}
use Rattle.toml_edit_laws.proofs.reading.Begins.{is_opening, Begins, scalar_begins}
use Rattle.toml_edit_laws.proofs.one_cut.Parts.{one_run, one_scalar, Stops, one_trivia, ends_trivia, Opens, opens, opens_from, opens_more}
use Rattle.toml_edit_laws.proofs.one_cut.Parts.{opens_stops, opens_unblank, opens_apart, ends_path, one_path, path_opens}

pub value_opens : (v : Value) (rest : Text) → IsValue v → Opens (value_text v ++ rest)
value_opens (scalar s t) rest is = opens_more t rest (opens_from t (scalar_begins s t is))
value_opens (array es comma t) rest is = (91, _, refl, refl)
value_opens (inline_table ps comma t) rest is = (123, _, refl, refl)

-- ---- pairs up to their values

-- a pair up to its value behind its trivia, and then this
abbrev pub behind_trivia : Frame → Text → Text
behind_trivia f rest = path_text f.path ++ (f.before_equals ++ (61 ∷ (f.after_equals ++ rest)))

pub same_frame : (f g : Frame) → f.leading ≡ g.leading → f.path ≡ g.path → f.before_equals ≡ g.before_equals → f.after_equals
    ≡ g.after_equals → f.trailing ≡ g.trailing → f ≡ g
same_frame f g leading path before after trailing =
    ap (λ (x : Text). record {
      leading = x;
      path = f.path;
      before_equals = f.before_equals;
      after_equals = f.after_equals;
      trailing =
          f.trailing;
    }) leading
    ∙ ap (λ (x : List Segment). record {
      leading = g.leading;
      path = x;
      before_equals = f.before_equals;
      after_equals =
          f.after_equals;
      trailing = f.trailing;
    }) path
    ∙ ap (λ (x : Text). record {
      leading = g.leading;
      path = g.path;
      before_equals = x;
      after_equals = f.after_equals;
      trailing =
          f.trailing;
    }) before
    ∙ ap (λ (x : Text). record {
      leading = g.leading;
      path = g.path;
      before_equals = g.before_equals;
      after_equals = x;
      trailing =
          f.trailing;
    }) after
    ∙ ap (λ (x : Text). record {
      leading = g.leading;
      path = g.path;
      before_equals = g.before_equals;
      after_equals =
          g.after_equals;
      trailing = x;
    }) trailing

-- two pairs that are the same up to their values, with the same rests
pub record SameHead (f g : Frame) (r q : Text) : Type 0 where
  pub leading : f.leading ≡ g.leading
  pub path : f.path ≡ g.path
  pub before : f.before_equals ≡ g.before_equals
  pub after : f.after_equals ≡ g.after_equals
  pub rest : r ≡ q

pub frame_opens : (MayFollow : Text → Type 0) (f : Frame) (rest : Text) → IsFrame MayFollow f → Opens (behind_trivia f rest)
frame_opens MayFollow f rest frame = path_opens f.path (f.before_equals ++ (61 ∷ (f.after_equals ++ rest))) frame.1

pub one_head : (MayFollow : Text → Type 0) (f g : Frame) (r q : Text) → IsFrame MayFollow f → IsFrame MayFollow g → Opens r → Opens q
    → f.leading ++ behind_trivia f r ≡ g.leading ++ behind_trivia g q → SameHead f g r q
one_head MayFollow f g r q is also begins also_begins e =
    let (leading, keys) = one_trivia f.leading g.leading (behind_trivia f r) (behind_trivia g q) is.0.leading also.0.leading
    (opens_stops (behind_trivia f r) (frame_opens MayFollow f r is)) (opens_stops (behind_trivia g q) (frame_opens MayFollow g q also)) e in
    let (path, signs) = one_path f.path g.path (f.before_equals ++ (61 ∷ (f.after_equals ++ r))) (g.before_equals
    ++ (61 ∷ (g.after_equals ++ q))) is.1 also.1 is.0.segments also.0.segments
    (ends_path f.before_equals (f.after_equals ++ r) 61 is.0.before_equals refl refl refl) (ends_path g.before_equals (g.after_equals
    ++ q) 61 also.0.before_equals refl refl refl) keys in
    let (before, equals) =
    one_run is_blank f.before_equals g.before_equals (61 ∷ (f.after_equals ++ r)) (61
    ∷ (g.after_equals ++ q)) is.0.before_equals also.0.before_equals refl refl signs in
    let values : f.after_equals ++ r ≡ g.after_equals ++ q = cc in
    let (after, rest) = one_run is_blank f.after_equals g.after_equals r q is.0.after_equals also.0.after_equals (opens_unblank r begins)
    (opens_unblank q also_begins) values in
    record { leading = leading; path = path; before = before; after = after; rest = rest }

-- ---- items of lists

-- the value is told apart from what ends it
abbrev OneValue : Value → Value → Type 0
OneValue v w = (r q : Text) → ends_scalar r ≡ true → ends_scalar q ≡ true → value_text v ++ r ≡ value_text w ++ q → (v ≡ w) × (r ≡ q)

-- what may stand behind an element or a pair
record EndsItem (t : Text) : Type 0 where
  stops : Stops t
  ends : ends_scalar t ≡ true

one_element : (a b : Around) (v w : Value) (r q : Text) → IsWholeTrivia a.before × IsWholeTrivia a.after → IsWholeTrivia b.before
    × IsWholeTrivia b.after → IsValue v → IsValue w
    → EndsItem r → EndsItem q → OneValue v w → a.before ++ (value_text v ++ (a.after ++ r)) ≡ b.before ++ (value_text w ++ (b.after ++ q))
    → (a ≡ b) × (v ≡ w) × (r ≡ q)
one_element a b v w r q around also_around is also stop halt values e =
    let more = a.after ++ r in
    let also_more = b.after ++ q in
    let (before, at) = one_trivia a.before b.before (value_text v ++ more) (value_text w ++ also_more) around.0 also_around.0
    (opens_stops (value_text v ++ more) (value_opens v more is)) (opens_stops (value_text w ++ also_more) (value_opens w also_more also))
    e in
    let (value, behind) =
    values more also_more (ends_trivia a.after r around.1 stop.ends) (ends_trivia b.after q also_around.1 halt.ends) at in
    let (after, rest) = one_trivia a.after b.after r q around.1 also_around.1 stop.stops halt.stops behind in (
      ap (λ (x : Text). record { before = x; after = a.after }) before ∙ ap (λ (x : Text). record { before = b.before; after = x }) after,
      value,
      rest,
    )

one_pair : (f g : Frame) (v w : Value) (r q : Text) → IsFrame IsWholeTrivia f → IsFrame IsWholeTrivia g → IsValue v → IsValue w → EndsItem r
    → EndsItem q → OneValue v w
    → f.leading ++ behind_trivia f (value_text v ++ (f.trailing ++ r)) ≡ g.leading ++ behind_trivia g (value_text w ++ (g.trailing ++ q))
    → (f ≡ g) × (v ≡ w) × (r ≡ q)
one_pair f g v w r q frame also_frame is also stop halt values e =
    let more = f.trailing ++ r in
    let also_more = g.trailing ++ q in
    let head = one_head IsWholeTrivia f g (value_text v ++ more) (value_text w
    ++ also_more) frame also_frame (value_opens v more is) (value_opens w also_more also) e in
    let (value, behind) =
    values more also_more (ends_trivia f.trailing r frame.0.trailing stop.ends)
    (ends_trivia g.trailing q also_frame.0.trailing halt.ends) head.rest in
    let (trailing, rest) = one_trivia f.trailing g.trailing r q frame.0.trailing also_frame.0.trailing stop.stops halt.stops behind in
    (same_frame f g head.leading head.path head.before head.after trailing, value, rest)

-- ---- the ends of lists

-- a closing bracket
record IsBracket (b : ℕ) : Type 0 where
  stops : (t : Text) → EndsItem (b ∷ t)
  no_comma : b ≡ 44 → ⊥
  opens_none : opens b ≡ false

square : IsBracket 93
square = record { stops = λ t. record { stops = refl; ends = refl }; no_comma = λ e. omega (arith, e); opens_none = refl }

curly : IsBracket 125
curly = record { stops = λ t. record { stops = refl; ends = refl }; no_comma = λ e. omega (arith, e); opens_none = refl }

last_empty : (t : Text) → IsClose true false t → t ≡ []
last_empty t (whole, inl none) = absurd (false≢true (sym none))
last_empty t (whole, inr empty) = empty

-- behind the last item
abbrev close_text : ℕ → Bool → Text → Text → Text
close_text b comma t rest = comma_text comma ++ (t ++ (b ∷ rest))

ends_close : (b : ℕ) (comma : Bool) (t rest : Text) → IsBracket b → IsClose true comma t → EndsItem (close_text b comma t rest)
ends_close b true t rest bracket close = record { stops = refl; ends = refl }
ends_close b false t rest bracket close = subst (λ (x : Text). EndsItem (x ++ (b ∷ rest))) (sym (last_empty t close)) (bracket.stops rest)

-- trivia before a closing bracket
one_end : (b : ℕ) (t u r q : Text) → IsBracket b → IsWholeTrivia t → IsWholeTrivia u → t ++ (b ∷ r) ≡ u ++ (b ∷ q) → (t ≡ u) × (r ≡ q)
one_end b t u r q bracket is also e =
    let (same, rest) = one_trivia t u (b ∷ r) (b ∷ q) is also (bracket.stops r).stops (bracket.stops q).stops e in
    let tails : r ≡ q = cc in
    (same, tails)

one_close : (b : ℕ) (c d : Bool) (t u r q : Text) → IsBracket b → IsClose true c t → IsClose true d u → close_text b c t r
    ≡ close_text b d u q → (c ≡ d) × (t ≡ u) × (r ≡ q)
one_close b true true t u r q bracket close also e =
    let behind : t ++ (b ∷ r) ≡ u ++ (b ∷ q) = cc in
    let (same, rest) = one_end b t u r q bracket close.0 also.0 behind in
    (refl, same, rest)
one_close b true false t u r q bracket close also e =
    let clash : 44 ∷ (t ++ (b ∷ r)) ≡ b ∷ q = e ∙ ap (λ (x : Text). x ++ (b ∷ q)) (last_empty u also) in
    let same : 44 ≡ b = cc in
    absurd (bracket.no_comma (sym same))
one_close b false true t u r q bracket close also e =
    let clash : 44 ∷ (u ++ (b ∷ q)) ≡ b ∷ r = sym e ∙ ap (λ (x : Text). x ++ (b ∷ r)) (last_empty t close) in
    let same : 44 ≡ b = cc in
    absurd (bracket.no_comma (sym same))
one_close b false false t u r q bracket close also e =
    let (same, rest) = one_end b t u r q bracket close.0 also.0 e in
    (refl, same, rest)

-- no item stands before a closing bracket
none_before : (b : ℕ) (t w r item : Text) → IsBracket b → IsWholeTrivia t → IsWholeTrivia w → Opens item → t ++ (b ∷ r) ≡ w ++ item → ⊥
none_before b t w r item bracket is also begins e =
    let (same, rest) = one_trivia t w (b ∷ r) item is also (bracket.stops r).stops (opens_stops item begins) e in
    opens_apart b r item bracket.opens_none begins rest

none_after : (b : ℕ) (c : Bool) (t w r item : Text) → IsBracket b → IsClose true c t → IsWholeTrivia w → Opens item → close_text b c t r
    ≡ 44 ∷ (w ++ item) → ⊥
none_after b true t w r item bracket close also begins e =
    let behind : t ++ (b ∷ r) ≡ w ++ item = cc in
    none_before b t w r item bracket close.0 also begins behind
none_after b false t w r item bracket close also begins e =
    let clash : 44 ∷ (w ++ item) ≡ b ∷ r = sym e ∙ ap (λ (x : Text). x ++ (b ∷ r)) (last_empty t close) in
    let same : 44 ≡ b = cc in
    bracket.no_comma (sym same)

-- no comma ends a list without items
no_comma : (c : Bool) (t : Text) → IsClose false c t → c ≡ false
no_comma true t close = absurd (false≢true close.1)
no_comma false t close = refl

-- ---- the texts of lists

-- behind an element, up to what follows the array's comma
abbrev elements_after : Elements → Bool → Text → Text
elements_after no_elements c rest = comma_text c ++ rest
elements_after (element a v es) c rest = 44 ∷ (a.before ++ (value_text v ++ (a.after ++ elements_after es c rest)))

abbrev pairs_after : Pairs → Bool → Text → Text
pairs_after no_pairs c rest = comma_text c ++ rest
pairs_after (pair f v ps) c rest = 44 ∷ (f.leading ++ behind_trivia f (value_text v ++ (f.trailing ++ pairs_after ps c rest)))

group_last : (a v b c rest : Text) → (a ++ (v ++ b)) ++ (c ++ rest) ≡ a ++ (v ++ (b ++ (c ++ rest)))
group_last a v b c rest = simp append_assoc

group_more : (a v b t rest : Text) → (a ++ (v ++ (b ++ (44 ∷ t)))) ++ rest ≡ a ++ (v ++ (b ++ (44 ∷ (t ++ rest))))
group_more a v b t rest = simp append_assoc

elements_then : (a : Around) (v : Value) (es : Elements) (c : Bool) (rest : Text)
    → elements_text (element a v es) ++ (comma_text c ++ rest) ≡ a.before ++ (value_text v ++ (a.after ++ elements_after es c rest))
elements_then a v no_elements c rest = group_last a.before (value_text v) a.after (comma_text c) rest
elements_then a v (element b w es) c rest =
    group_more a.before (value_text v) a.after (elements_text (element b w es)) (comma_text c ++ rest)
    ∙ ap (λ (x : Text). a.before ++ (value_text v ++ (a.after ++ (44 ∷ x)))) (elements_then b w es c rest)

group_pair : (a b c d v e rest : Text) → (a ++ (b ++ (c ++ (61 ∷ (d ++ (v ++ e)))))) ++ rest ≡ a
    ++ (b ++ (c ++ (61 ∷ (d ++ (v ++ (e ++ rest))))))
group_pair a b c d v e rest = simp append_assoc

pub frame_then : (f : Frame) (v rest : Text) → frame_text f v ++ rest ≡ f.leading ++ behind_trivia f (v ++ (f.trailing ++ rest))
frame_then f v rest = group_pair f.leading (path_text f.path) f.before_equals f.after_equals v f.trailing rest

pairs_then : (f : Frame) (v : Value) (ps : Pairs) (c : Bool) (rest : Text)
    → pairs_text (pair f v ps) ++ (comma_text c ++ rest) ≡ f.leading
    ++ behind_trivia f (value_text v ++ (f.trailing ++ pairs_after ps c rest))
pairs_then f v no_pairs c rest = frame_then f (value_text v) (comma_text c ++ rest)
pairs_then f v (pair g w ps) c rest =
    append_assoc (frame_text f (value_text v)) (44 ∷ pairs_text (pair g w ps)) (comma_text c ++ rest)
    ∙ frame_then f (value_text v) (44 ∷ (pairs_text (pair g w ps) ++ (comma_text c ++ rest)))
    ∙ ap (λ (x : Text). f.leading ++ behind_trivia f (value_text v ++ (f.trailing ++ (44 ∷ x)))) (pairs_then g w ps c rest)

group_list : (es c t : Text) (b : ℕ) (rest : Text) → (es ++ (c ++ (t ++ (b ∷ [])))) ++ rest ≡ es ++ (c ++ (t ++ (b ∷ rest)))
group_list es c t b rest = simp append_assoc

-- what stands behind an element is no value yet
ends_elements : (es : Elements) (c : Bool) (t rest : Text) → IsClose true c t → EndsItem (elements_after es c (t ++ (93 ∷ rest)))
ends_elements no_elements c t rest close = ends_close 93 c t rest square close
ends_elements (element a v es) c t rest close = record { stops = refl; ends = refl }

ends_pairs : (ps : Pairs) (c : Bool) (t rest : Text) → IsClose true c t → EndsItem (pairs_after ps c (t ++ (125 ∷ rest)))
ends_pairs no_pairs c t rest close = ends_close 125 c t rest curly close
ends_pairs (pair f v ps) c t rest close = record { stops = refl; ends = refl }

-- a scalar begins with no bracket
scalar_apart : (c : ℕ) (cs s rest : Text) → Begins s → is_opening c ≡ false → s ++ rest ≡ c ∷ cs → ⊥
scalar_apart c cs s rest (d, ds, e, opening) none same =
    let all : d ∷ (ds ++ rest) ≡ c ∷ cs = sym (ap (λ (x : Text). x ++ rest) e) ∙ same in
    let is : c ≡ d = cc in
    false≢true (sym none ∙ ap is_opening is ∙ opening)

-- ---- values

same_element : (a b : Around) (v w : Value) (es fs : Elements) → a ≡ b → v ≡ w → es ≡ fs → element a v es ≡ element b w fs
same_element a b v w es fs x y z = ap (λ (a : Around). element a v es) x ∙ ap (λ (v : Value). element b v es) y ∙ ap (element b w) z

same_pair : (f g : Frame) (v w : Value) (ps qs : Pairs) → f ≡ g → v ≡ w → ps ≡ qs → pair f v ps ≡ pair g w qs
same_pair f g v w ps qs x y z = ap (λ (f : Frame). pair f v ps) x ∙ ap (λ (v : Value). pair g v ps) y ∙ ap (pair g w) z

same_array : (es fs : Elements) (c d : Bool) (t u : Text) → es ≡ fs → c ≡ d → t ≡ u → array es c t ≡ array fs d u
same_array es fs c d t u x y z = ap (λ (es : Elements). array es c t) x ∙ ap (λ (c : Bool). array fs c t) y ∙ ap (array fs d) z

same_inline_table : (ps qs : Pairs) (c d : Bool) (t u : Text) → ps ≡ qs → c ≡ d → t ≡ u → inline_table ps c t ≡ inline_table qs d u
same_inline_table ps qs c d t u x y z = ap (λ (ps : Pairs). inline_table ps c t) x ∙ ap (λ (c : Bool). inline_table qs c t) y
    ∙ ap (inline_table qs d) z

mutual
  pub one_value : (v w : Value) (r q : Text) → IsValue v → IsValue w → ends_scalar r ≡ true → ends_scalar q ≡ true → value_text v ++ r
      ≡ value_text w ++ q → (v ≡ w) × (r ≡ q)
  one_value (scalar a s) (scalar b t) r q is also stop halt e =
      let (value, spelled, rest) = one_scalar a b s t r q is also stop halt e in
      (ap (λ x. scalar x s) value ∙ ap (scalar b) spelled, rest)
  one_value (scalar a s) (array fs d u) r q is also stop halt e = absurd (scalar_apart 91 _ s r (scalar_begins a s is) refl e)
  one_value (scalar a s) (inline_table qs d u) r q is also stop halt e = absurd (scalar_apart 123 _ s r (scalar_begins a s is) refl e)
  one_value (array es c t) (scalar b s) r q is also stop halt e = absurd (scalar_apart 91 _ s q (scalar_begins b s also) refl (sym e))
  one_value (inline_table ps c t) (scalar b s) r q is also stop halt e =
      absurd (scalar_apart 123 _ s q (scalar_begins b s also) refl (sym e))
  one_value (array es c t) (inline_table qs d u) r q is also stop halt e = let clash : ◌≡◌ {A = ℕ} 91 123 = cc in
      absurd (omega (arith, clash))
  one_value (inline_table ps c t) (array fs d u) r q is also stop halt e = let clash : ◌≡◌ {A = ℕ} 123 91 = cc in
      absurd (omega (arith, clash))
  one_value (array es c t) (array fs d u) r q is also stop halt e =
      let behind : (elements_text es ++ (comma_text c ++ (t ++ (93 ∷ [])))) ++ r ≡ (elements_text fs ++ (comma_text d ++ (u ++ (93 ∷ []))))
      ++ q = cc in
      let (items, comma, close, rest) = one_array es fs c d t u r q is.0 also.0 is.1 also.1
      (sym (group_list (elements_text es) (comma_text c) t 93 r) ∙ behind ∙ group_list (elements_text fs) (comma_text d) u 93 q) in
      (same_array es fs c d t u items comma close, rest)
  one_value (inline_table ps c t) (inline_table qs d u) r q is also stop halt e =
      let behind : (pairs_text ps ++ (comma_text c ++ (t ++ (125 ∷ [])))) ++ r ≡ (pairs_text qs ++ (comma_text d ++ (u ++ (125 ∷ []))))
      ++ q = cc in
      let (items, comma, close, rest) = one_inline_table ps qs c d t u r q is.0 also.0 is.1 also.1
      (sym (group_list (pairs_text ps) (comma_text c) t 125 r) ∙ behind ∙ group_list (pairs_text qs) (comma_text d) u 125 q) in
      (same_inline_table ps qs c d t u items comma close, rest)

  one_array : (es fs : Elements) (c d : Bool) (t u r q : Text) → IsClose (has_elements es) c t → IsClose (has_elements fs) d u
      → AreElements es → AreElements fs
      → elements_text es ++ close_text 93 c t r ≡ elements_text fs ++ close_text 93 d u q → (es ≡ fs) × (c ≡ d) × (t ≡ u) × (r ≡ q)
  one_array no_elements no_elements c d t u r q close also_close are also e =
      let none = no_comma c t close in
      let also_none = no_comma d u also_close in
      let (same, rest) = one_end 93 t u r q square (close-trivia false c t close) (close-trivia false d u also_close)
      (ap (λ (x : Bool). close_text 93 x t r) (sym none) ∙ e ∙ ap (λ (x : Bool). close_text 93 x u q) also_none) in
      (refl, none ∙ sym also_none, same, rest)
  one_array no_elements (element b w fs) c d t u r q close also_close are (before, after, value, more) e =
      let item = value_text w ++ (b.after ++ elements_after fs d (u ++ (93 ∷ q))) in
      absurd (none_before 93 t b.before r item square (close-trivia false c t close) before (value_opens w (b.after
      ++ elements_after fs d (u ++ (93 ∷ q))) value)
      (ap (λ (x : Bool). close_text 93 x t r) (sym (no_comma c t close)) ∙ e ∙ elements_then b w fs d (u ++ (93 ∷ q))))
  one_array (element a v es) no_elements c d t u r q close also_close (before, after, value, more) also e =
      let item = value_text v ++ (a.after ++ elements_after es c (t ++ (93 ∷ r))) in
      absurd (none_before 93 u a.before q item square (close-trivia false d u also_close) before (value_opens v (a.after
      ++ elements_after es c (t ++ (93 ∷ r))) value)
      (ap (λ (x : Bool). close_text 93 x u q) (sym (no_comma d u also_close)) ∙ sym e ∙ elements_then a v es c (t ++ (93 ∷ r))))
  one_array (element a v es) (element b w fs) c d t u r q close also_close (before, after, value, more) (
    also_before,
    also_after,
    also_value,
    also_more,
  ) e =
      let (around, values, behind) =
      one_element a b v w (elements_after es c (t ++ (93 ∷ r))) (elements_after fs d (u ++ (93 ∷ q))) (before, after) (
        also_before,
        also_after,
      ) value also_value
      (ends_elements es c t r close) (ends_elements fs d u q also_close)
      (λ r q stop halt same. one_value v w r q value also_value stop halt same)
      (sym (elements_then a v es c (t ++ (93 ∷ r))) ∙ e ∙ elements_then b w fs d (u ++ (93 ∷ q))) in
      let (items, comma, closes, rest) = one_elements es fs c d t u r q close also_close more also_more behind in
      (same_element a b v w es fs around values items, comma, closes, rest)

  -- behind an element
  one_elements : (es fs : Elements) (c d : Bool) (t u r q : Text) → IsClose true c t → IsClose true d u → AreElements es → AreElements fs
      → elements_after es c (t ++ (93 ∷ r)) ≡ elements_after fs d (u ++ (93 ∷ q)) → (es ≡ fs) × (c ≡ d) × (t ≡ u) × (r ≡ q)
  one_elements no_elements no_elements c d t u r q close also_close are also e =
      let (comma, closes, rest) = one_close 93 c d t u r q square close also_close e in
      (refl, comma, closes, rest)
  one_elements no_elements (element b w fs) c d t u r q close also_close are (before, after, value, more) e =
      absurd (none_after 93 c t b.before r (value_text w
      ++ (b.after ++ elements_after fs d (u ++ (93 ∷ q)))) square close before (value_opens w (b.after
      ++ elements_after fs d (u ++ (93 ∷ q))) value) e)
  one_elements (element a v es) no_elements c d t u r q close also_close (before, after, value, more) also e =
      absurd (none_after 93 d u a.before q (value_text v
      ++ (a.after ++ elements_after es c (t ++ (93 ∷ r)))) square also_close before (value_opens v (a.after
      ++ elements_after es c (t ++ (93 ∷ r))) value) (sym e))
  one_elements (element a v es) (element b w fs) c d t u r q close also_close (before, after, value, more) (
    also_before,
    also_after,
    also_value,
    also_more,
  ) e =
      let here : a.before ++ (value_text v ++ (a.after ++ elements_after es c (t ++ (93 ∷ r)))) ≡ b.before
      ++ (value_text w ++ (b.after ++ elements_after fs d (u ++ (93 ∷ q)))) = cc in
      let (around, values, behind) =
      one_element a b v w (elements_after es c (t ++ (93 ∷ r))) (elements_after fs d (u ++ (93 ∷ q))) (before, after) (
        also_before,
        also_after,
      ) value also_value
      (ends_elements es c t r close) (ends_elements fs d u q also_close)
      (λ r q stop halt same. one_value v w r q value also_value stop halt same) here in
      let (items, comma, closes, rest) = one_elements es fs c d t u r q close also_close more also_more behind in
      (same_element a b v w es fs around values items, comma, closes, rest)

  one_inline_table : (ps qs : Pairs) (c d : Bool) (t u r q : Text) → IsClose (has_pairs ps) c t → IsClose (has_pairs qs) d u → ArePairs ps
      → ArePairs qs
      → pairs_text ps ++ close_text 125 c t r ≡ pairs_text qs ++ close_text 125 d u q → (ps ≡ qs) × (c ≡ d) × (t ≡ u) × (r ≡ q)
  one_inline_table no_pairs no_pairs c d t u r q close also_close are also e =
      let none = no_comma c t close in
      let also_none = no_comma d u also_close in
      let (same, rest) = one_end 125 t u r q curly (close-trivia false c t close) (close-trivia false d u also_close)
      (ap (λ (x : Bool). close_text 125 x t r) (sym none) ∙ e ∙ ap (λ (x : Bool). close_text 125 x u q) also_none) in
      (refl, none ∙ sym also_none, same, rest)
  one_inline_table no_pairs (pair g w qs) c d t u r q close also_close are (frame, value, more) e =
      let item = value_text w ++ (g.trailing ++ pairs_after qs d (u ++ (125 ∷ q))) in
      absurd (none_before 125 t g.leading r (behind_trivia g item) curly (close-trivia false c t close) frame.0.leading
      (frame_opens IsWholeTrivia g item frame)
      (ap (λ (x : Bool). close_text 125 x t r) (sym (no_comma c t close)) ∙ e ∙ pairs_then g w qs d (u ++ (125 ∷ q))))
  one_inline_table (pair f v ps) no_pairs c d t u r q close also_close (frame, value, more) also e =
      let item = value_text v ++ (f.trailing ++ pairs_after ps c (t ++ (125 ∷ r))) in
      absurd (none_before 125 u f.leading q (behind_trivia f item) curly (close-trivia false d u also_close) frame.0.leading
      (frame_opens IsWholeTrivia f item frame)
      (ap (λ (x : Bool). close_text 125 x u q) (sym (no_comma d u also_close)) ∙ sym e ∙ pairs_then f v ps c (t ++ (125 ∷ r))))
  one_inline_table (pair f v ps) (pair g w qs) c d t u r q close also_close (frame, value, more) (also_frame, also_value, also_more) e =
      let (frames, values, behind) =
      one_pair f g v w (pairs_after ps c (t ++ (125 ∷ r))) (pairs_after qs d (u ++ (125 ∷ q))) frame also_frame value also_value
      (ends_pairs ps c t r close) (ends_pairs qs d u q also_close) (λ r q stop halt same. one_value v w r q value also_value stop halt same)
      (sym (pairs_then f v ps c (t ++ (125 ∷ r))) ∙ e ∙ pairs_then g w qs d (u ++ (125 ∷ q))) in
      let (items, comma, closes, rest) = one_pairs ps qs c d t u r q close also_close more also_more behind in
      (same_pair f g v w ps qs frames values items, comma, closes, rest)

  -- behind a pair
  one_pairs : (ps qs : Pairs) (c d : Bool) (t u r q : Text) → IsClose true c t → IsClose true d u → ArePairs ps → ArePairs qs
      → pairs_after ps c (t ++ (125 ∷ r)) ≡ pairs_after qs d (u ++ (125 ∷ q)) → (ps ≡ qs) × (c ≡ d) × (t ≡ u) × (r ≡ q)
  one_pairs no_pairs no_pairs c d t u r q close also_close are also e =
      let (comma, closes, rest) = one_close 125 c d t u r q curly close also_close e in
      (refl, comma, closes, rest)
  one_pairs no_pairs (pair g w qs) c d t u r q close also_close are (frame, value, more) e =
      let item = value_text w ++ (g.trailing ++ pairs_after qs d (u ++ (125 ∷ q))) in
      absurd (none_after 125 c t g.leading r (behind_trivia g item) curly close frame.0.leading (frame_opens IsWholeTrivia g item frame) e)
  one_pairs (pair f v ps) no_pairs c d t u r q close also_close (frame, value, more) also e =
      let item = value_text v ++ (f.trailing ++ pairs_after ps c (t ++ (125 ∷ r))) in
      absurd (none_after 125 d u f.leading q (behind_trivia f item) curly also_close frame.0.leading
      (frame_opens IsWholeTrivia f item frame) (sym e))
  one_pairs (pair f v ps) (pair g w qs) c d t u r q close also_close (frame, value, more) (also_frame, also_value, also_more) e =
      let item = value_text v ++ (f.trailing ++ pairs_after ps c (t ++ (125 ∷ r))) in
      let also_item = value_text w ++ (g.trailing ++ pairs_after qs d (u ++ (125 ∷ q))) in
      let here : f.leading ++ behind_trivia f item ≡ g.leading ++ behind_trivia g also_item = cc in
      let (frames, values, behind) =
      one_pair f g v w (pairs_after ps c (t ++ (125 ∷ r))) (pairs_after qs d (u ++ (125 ∷ q))) frame also_frame value also_value
      (ends_pairs ps c t r close) (ends_pairs qs d u q also_close) (λ r q stop halt same. one_value v w r q value also_value stop halt same)
      here in
      let (items, comma, closes, rest) = one_pairs ps qs c d t u r q close also_close more also_more behind in
      (same_pair f g v w ps qs frames values items, comma, closes, rest)
