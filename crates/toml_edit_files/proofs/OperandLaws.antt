-- What the operands and the options of commands say.
use Rattle.std.proofs.Common.{◌≡◌, ◌≢◌, ◌≤◌, ◌<◌, ◌==◌, ◌+◌, ◌-◌, ◌∙◌, refl, sym, ap, subst, cond, Bool, true, false, ℕ, zero, suc, List, [], ◌∷◌, ◌++◌, drop, get_or, length, length-append, length-drop, map, take, arith, inl, inr, Option, Some, None, Bor, Global}
use Rattle.std.proofs.lemmas.Bool.{eqb-true}
use Rattle.std.proofs.lemmas.List.{drop-map, get_or-map, length-map, take-append-drop, take_all, take_more, take_rest}
use Rattle.std.proofs.lemmas.Slice.Eq.{bytes_eq-Decides}
use Rattle.std.specs.Option.{option_copied}
use Rattle.std.specs.Prelude.{◌⊎◌, ◌&&◌, Any, IsTrue, MatchBool, bytes_eq, codes, is_none, is_some, not, Vec}
use Rattle.toml_edit_model.specs.Keys.{names}
use Rattle.toml_edit_model.specs.Text.{Text}
use Rattle.toml_edit_model.specs.Tree.{Key}
use Rattle.toml_edit_model.specs.Version.{Version}
use Rattle.toml_edit_edits.specs.Said.{IsNoKeys, SpellsKeys}
use Rattle.toml_edit_edits.specs.declared.edit.Edit.{Edit}
use Rattle.toml_edit_edits.specs.declared.edit.Edit.TheVariants.{Sort}
use Rattle.toml_edit_words.specs.Spelled.{IsNoPath, SpellsPath}
use Rattle.toml_edit_files.proofs.ApartLaws.{empty-says-none}
use Rattle.toml_edit_files.proofs.OutcomeLaws.{is_false, is_true}
use Rattle.toml_edit_files.proofs.RunLaws.{chosen, chosen_not}
use Rattle.toml_edit_files.proofs.SplitLaws.{map-more, next-at, not-empty, option_of}
use Rattle.toml_edit_files.specs.Requests.{AreFileAndPath, ArePaths, AreSorts, IsEdit, IsFmt, IsGet, IsHas, IsKind, IsNoneBy, SaysApart, SaysBy, are_taken, rules_in, shape_in}
use Rattle.toml_edit_files.specs.Split.{Words, last_of}
use Rattle.toml_edit_files.specs.declared.help.Topic.TheVariants as topics
use Rattle.toml_edit_files.specs.declared.words.Command.{Command}
use Rattle.toml_edit_files.specs.declared.words.Command.TheVariants as commands
use Rattle.toml_edit_files.specs.declared.words.EditCommand.{EditCommand}
use Rattle.toml_edit_files.specs.declared.words.Fmt.{Fmt}
use Rattle.toml_edit_files.specs.declared.words.Get.{Get}
use Rattle.toml_edit_files.specs.declared.words.Has.{Has}
use Rattle.toml_edit_items.specs.Kinds.{kind_named}
use Rattle.toml_edit_items.specs.declared.kind.Kind.{Kind}
use Rattle.toml_edit_files.specs.declared.words.Question.TheVariants as questions
use Rattle.toml_edit_items.specs.declared.shape.Shape.{Shape}
use Rattle.toml_edit_items.specs.declared.shape.Shape.TheVariants as shapes

-- ---- the words of a slice

abbrev nowhere : Bor Text
nowhere = record { ref_ptr = (0, 0); now = [] }

abbrev pub word_at : List (Bor Text) → ℕ → Text
word_at ws i = (get_or ws i nowhere).now

pub one-word : (ws : List (Bor Text)) → 1 ≤ length ws → length ws < 2 → map (λ w. w.now) ws ≡ word_at ws 0 ∷ []
one-word [] long short = absurd (omega (arith, long))
one-word (x ∷ []) long short = refl
one-word (x ∷ (y ∷ ws)) long short = absurd (omega (arith, short))

pub two-words : (ws : List (Bor Text)) → 2 ≤ length ws → length ws < 3 → map (λ w. w.now) ws ≡ word_at ws 0 ∷ (word_at ws 1 ∷ [])
two-words [] long short = absurd (omega (arith, long))
two-words (x ∷ []) long short = absurd (omega (arith, long))
two-words (x ∷ (y ∷ [])) long short = refl
two-words (x ∷ (y ∷ (z ∷ ws))) long short = absurd (omega (arith, short))

pub first-word : (ws : List (Bor Text)) → 1 ≤ length ws
    → map (λ w. w.now) ws ≡ word_at ws 0 ∷ map (λ w. w.now) (take (length ws - 1) (drop 1 ws))
first-word [] long = absurd (omega (arith, long))
first-word (x ∷ ws) long = ap (λ l. x.now ∷ map (λ (w : Bor Text). w.now) l) (sym (take_rest (x ∷ ws) 1))

pub three-words : (ws : List (Bor Text)) → 3 ≤ length ws → length ws < 4
    → map (λ w. w.now) ws ≡ word_at ws 0 ∷ (word_at ws 1 ∷ (word_at ws 2 ∷ []))
three-words [] long short = absurd (omega (arith, long))
three-words (x ∷ []) long short = absurd (omega (arith, long))
three-words (x ∷ (y ∷ [])) long short = absurd (omega (arith, long))
three-words (x ∷ (y ∷ (z ∷ []))) long short = refl
three-words (x ∷ (y ∷ (z ∷ (w ∷ ws)))) long short = absurd (omega (arith, short))

module _ {A B : Type 0} (f : A → B) where
  pub first-of : (xs : List A) (a : A) → 1 ≤ length xs → a ≡ get_or xs 0 a → map f xs ≡ f a ∷ map f (take (length xs - 1) (drop 1 xs))
  first-of [] a long first = absurd (omega (arith, long))
  first-of (x ∷ xs) a long first =
      ap (λ l. f x ∷ map f l) (sym (take_rest (x ∷ xs) 1)) ∙ ap (λ y. f y ∷ map f (take (length (x ∷ xs) - 1) (drop 1 (x ∷ xs)))) (sym first)

  pub one-of : (xs : List A) (a : A) → 1 ≤ length xs → length xs < 2 → a ≡ get_or xs 0 a → map f xs ≡ f a ∷ []
  one-of [] a long short first = absurd (omega (arith, long))
  one-of (x ∷ []) a long short first = ap (λ y. f y ∷ []) (sym first)
  one-of (x ∷ (y ∷ xs)) a long short first = absurd (omega (arith, short))

  pub no-of : (xs : List A) → length xs < 1 → map f xs ≡ []
  no-of [] short = refl
  no-of (x ∷ xs) short = absurd (omega (arith, short))

  -- by whether it is empty
  pub empty-of : (xs : List A) (empty : Bool) → empty ≡ (length xs == 0) → empty ≡ true → map f xs ≡ []
  empty-of xs empty is so = let none = eqb-true (length xs) 0 (sym is ∙ so) in no-of xs (omega (arith, none))

  pub some-of : (xs : List A) (empty : Bool) → empty ≡ (length xs == 0) → empty ≡ false → map f xs ≢ []
  some-of [] empty is so none = let e : true ≡ false = sym is ∙ so in absurd cc
  some-of (x ∷ xs) empty is so none = let e : f x ∷ map f xs ≡ [] = none in absurd cc

  -- what is made of all
  pub all-of : (xs : List A) (i : ℕ) → length xs ≤ i → map f (take i xs) ≡ map f xs
  all-of xs i past = ap (map f) (take_all i xs past)

  -- there are fewer behind the first one, and behind others
  pub fewer : (xs rest : List A) (front : List B) → 1 ≤ length xs → map f (take (length xs - 1) (drop 1 xs)) ≡ front ++ map f rest
      → length rest < length xs
  fewer xs rest front some is =
      let all = ap length is in let both = length-append front (map f rest) in let left = length-map rest f in
      let taken = length-map (take (length xs - 1) (drop 1 xs)) f in let tail = ap length (take_rest xs 1) in let dropped = length-drop 1 xs in
      omega (arith, some, all, both, left, taken, tail, dropped)

  -- the elements before a place and those from it on
  pub split-at : (xs : List A) (n : ℕ) → map f xs ≡ take n (map f xs) ++ map f (take (length xs - n) (drop n xs))
  split-at xs n =
      sym (take-append-drop n (map f xs)) ∙ ap (λ l. take n (map f xs) ++ l) (drop-map f n xs ∙ ap (map f) (sym (take_rest xs n)))

-- ---- whether a word is another one

pub differs-so : (a b : Text) (r : Bool) → r ≡ not (bytes_eq a b) → r ≡ true → a ≢ b
differs-so a b r is so same = let yes = (bytes_eq-Decides a b).1 same in let unlike : true ≡ false = sym so ∙ is ∙ ap not yes in absurd cc

pub same-so : (a b : Text) (r : Bool) → r ≡ not (bytes_eq a b) → r ≡ false → a ≡ b
same-so a b r is so = (bytes_eq-Decides a b).0 (unturned (bytes_eq a b) (sym is ∙ so))
  where
    unturned : (b : Bool) → not b ≡ false → b ≡ true
    unturned true is = refl
    unturned false is = absurd (let e : true ≡ false = is in cc)

-- ---- a choice between facts

either : (A B C D : Type 0) (b : Bool) → (A → C) → (B → D) → MatchBool b A B → MatchBool b C D
either A B C D true f g a = f a
either A B C D false f g a = g a

out-of : (A B C : Type 0) (b : Bool) → (A → C) → (B → C) → MatchBool b A B → C
out-of A B C true f g a = f a
out-of A B C false f g a = g a

-- ---- paths

pub paths-more : (ts : List Text) (ps : List (List Key)) (t : Text) (p : List Key) → ArePaths ts ps → SpellsPath t (names p)
    → ArePaths (ts ++ (t ∷ [])) (ps ++ (p ∷ []))
paths-more [] [] t p are spelled = (spelled, tt)
paths-more [] (q ∷ ps) t p are spelled = absurd are
paths-more (u ∷ ts) [] t p are spelled = absurd are
paths-more (u ∷ ts) (q ∷ ps) t p (one, more) spelled = (one, paths-more ts ps t p more spelled)

no-path-at : (ts : List Text) (ps : List (List Key)) (k : ℕ) (t : Text) → k < length ts → get_or ts k t ≡ t → IsNoPath t → ArePaths ts ps → ⊥
no-path-at [] ps k t within at none are = absurd (omega (arith, within))
no-path-at (u ∷ ts) [] k t within at none are = are
no-path-at (u ∷ ts) (p ∷ ps) zero t within at none (spelled, more) = none (names p) (subst (λ (v : Text). SpellsPath v (names p)) at spelled)
no-path-at (u ∷ ts) (p ∷ ps) (suc k) t within at none (spelled, more) = no-path-at ts ps k t (omega (arith, within)) at none more

pub no-paths : (ts : List Text) (ps : List (List Key)) → Any IsNoPath ts → ArePaths ts ps → ⊥
no-paths ts ps (k, t, within, at, none) are = no-path-at ts ps k t within at none are

module _ (xs : List (Bor Text)) (i : ℕ) (d : Bor Text) (within : i < length xs) where
  abbrev text_of : Bor Text → Text
  text_of t = t.now

  pub path-turn : (old new : List (Vec Key Global)) (path : Vec Key Global) → SpellsPath (get_or xs i d).now (names path.items)
      → new ≡ old ++ (path ∷ []) → ArePaths (map text_of (take i xs)) (map (λ p. p.items) old)
      → ArePaths (map text_of (take (i + 1) xs)) (map (λ p. p.items) new)
  path-turn old new path spelled grown are =
      subst (λ ts. ArePaths ts (map (λ p. p.items) new)) (sym (ap (map text_of) (take_more xs i d within) ∙ map-more text_of (take i xs) (get_or xs i d)))
      (subst (ArePaths (map text_of (take i xs) ++ ((get_or xs i d).now ∷ [])))
      (sym (ap (map (λ (p : Vec Key Global). p.items)) grown ∙ map-more (λ (p : Vec Key Global). p.items) old path))
      (paths-more (map text_of (take i xs)) (map (λ p. p.items) old) (get_or xs i d).now path.items are spelled))

  pub path-wrong : IsNoPath (get_or xs i d).now → Any IsNoPath (map text_of xs)
  path-wrong none =
      (i, (get_or xs i d).now, subst (λ n. i < n) (sym (length-map xs text_of)) within, get_or-map text_of xs i d (get_or xs i d).now within, none)

-- ---- how `get` writes

module _ (shape : Shape) (o : Text × Text) (os : List (Text × Text)) where
  abbrev unraw : Shape
  unraw = cond (bytes_eq o.0 (codes "--lines")) (shape_in shapes.Lines os) (shape_in shape os)

  pub shape-raw : bytes_eq o.0 (codes "--raw") ≡ true → shape_in shape (o ∷ os) ≡ shape_in shapes.Raw os
  shape-raw is = ap (λ b. cond b (shape_in shapes.Raw os) unraw) is

  pub shape-lines : bytes_eq o.0 (codes "--raw") ≡ false → bytes_eq o.0 (codes "--lines") ≡ true → shape_in shape (o ∷ os) ≡ shape_in shapes.Lines os
  shape-lines unlike is = ap (λ b. cond b (shape_in shapes.Raw os) unraw) unlike ∙ ap (λ b. cond b (shape_in shapes.Lines os) (shape_in shape os)) is

  pub shape-other : bytes_eq o.0 (codes "--raw") ≡ false → bytes_eq o.0 (codes "--lines") ≡ false → shape_in shape (o ∷ os) ≡ shape_in shape os
  shape-other unlike none = ap (λ b. cond b (shape_in shapes.Raw os) unraw) unlike ∙ ap (λ b. cond b (shape_in shapes.Lines os) (shape_in shape os)) none

module _ (all : Shape) (xs : List (Bor Text × Bor Text)) (i : ℕ) (d : Bor Text × Bor Text) (within : i < length xs) (shape : Shape)
    (so-far : all ≡ shape_in shape (map option_of (drop i xs))) where
  abbrev o : Text × Text
  o = option_of (get_or xs i d)

  abbrev os : List (Text × Text)
  os = map option_of (drop (i + 1) xs)

  next : all ≡ shape_in shape (o ∷ os)
  next = so-far ∙ ap (shape_in shape) (next-at option_of xs i d within)

  pub raw-turn : bytes_eq (get_or xs i d).0.now (codes "--raw") ≡ true → all ≡ shape_in shapes.Raw (map option_of (drop (i + 1) xs))
  raw-turn is = next ∙ shape-raw shape o os is

  module _ (unlike : bytes_eq (get_or xs i d).0.now (codes "--raw") ≡ false) where
    pub lines-turn : bytes_eq (get_or xs i d).0.now (codes "--lines") ≡ true → all ≡ shape_in shapes.Lines (map option_of (drop (i + 1) xs))
    lines-turn is = next ∙ shape-lines shape o os unlike is

    pub shape-passed : bytes_eq (get_or xs i d).0.now (codes "--lines") ≡ false → all ≡ shape_in shape (map option_of (drop (i + 1) xs))
    shape-passed is = next ∙ shape-other shape o os unlike is

-- ---- sorts

abbrev is_sort : Text × Text → Bool
is_sort o = bytes_eq o.0 (codes "--sort")

abbrev SortsFirst : Text → List (Text × Text) → List Edit → Type 0
SortsFirst t os es = (path : Vec Key Global) × (more : List Edit) × (es ≡ Sort path ∷ more) × SpellsKeys t path.items × AreSorts os more

pub sorts-passed : (os : List (Text × Text)) (o : Text × Text) (es : List Edit) → bytes_eq o.0 (codes "--sort") ≡ false → AreSorts os es
    → AreSorts (os ++ (o ∷ [])) es
sorts-passed [] o es other are = chosen_not (SortsFirst o.1 [] es) (es ≡ []) (is_sort o) other are
sorts-passed (p ∷ os) o es other are =
    either (SortsFirst p.1 os es) (AreSorts os es) (SortsFirst p.1 (os ++ (o ∷ [])) es) (AreSorts (os ++ (o ∷ [])) es) (is_sort p)
    (λ h. (h.0, h.1, h.2, h.3, sorts-passed os o h.1 other h.4)) (λ h. sorts-passed os o es other h) are

pub sorts-more : (os : List (Text × Text)) (o : Text × Text) (es : List Edit) (path : Vec Key Global) → bytes_eq o.0 (codes "--sort") ≡ true
    → SpellsKeys o.1 path.items → AreSorts os es → AreSorts (os ++ (o ∷ [])) (es ++ (Sort path ∷ []))
sorts-more [] o es path is spelled are =
    chosen (SortsFirst o.1 [] (es ++ (Sort path ∷ []))) (es ++ (Sort path ∷ []) ≡ []) (is_sort o) is
    (path, [], ap (λ l. l ++ (Sort path ∷ [])) are, spelled, refl)
sorts-more (p ∷ os) o es path is spelled are =
    either (SortsFirst p.1 os es) (AreSorts os es) (SortsFirst p.1 (os ++ (o ∷ [])) (es ++ (Sort path ∷ [])))
    (AreSorts (os ++ (o ∷ [])) (es ++ (Sort path ∷ []))) (is_sort p)
    (λ h. (h.0, h.1 ++ (Sort path ∷ []), ap (λ l. l ++ (Sort path ∷ [])) h.2, h.3, sorts-more os o h.1 path is spelled h.4))
    (λ h. sorts-more os o es path is spelled h) are

pub no-sorts : (os : List (Text × Text)) (k : ℕ) (o : Text × Text) → k < length os → o ≡ get_or os k o → bytes_eq o.0 (codes "--sort") ≡ true
    → IsNoKeys o.1 → (es : List Edit) → AreSorts os es → ⊥
no-sorts [] k o within at is none es are = absurd (omega (arith, within))
no-sorts (p ∷ os) zero o within at is none es are =
    let same : is_sort p ≡ true = ap is_sort (sym at) ∙ is in let h = is_true (SortsFirst p.1 os es) (AreSorts os es) (is_sort p) same are in
    none h.0.items (subst (λ (q : Text × Text). SpellsKeys q.1 h.0.items) (sym at) h.3)
no-sorts (p ∷ os) (suc k) o within at is none es are =
    out-of (SortsFirst p.1 os es) (AreSorts os es) ⊥ (is_sort p)
    (λ h. no-sorts os k o (omega (arith, within)) at is none h.1 h.4) (λ h. no-sorts os k o (omega (arith, within)) at is none es h) are

module _ (xs : List (Bor Text × Bor Text)) (i : ℕ) (d : Bor Text × Bor Text) (within : i < length xs) where
  abbrev grown : List (Text × Text)
  grown = map option_of (take i xs) ++ (option_of (get_or xs i d) ∷ [])

  grows : map option_of (take (i + 1) xs) ≡ grown
  grows = ap (map option_of) (take_more xs i d within) ∙ map-more option_of (take i xs) (get_or xs i d)

  pub sort-turn : (es : List Edit) (path : Vec Key Global) → bytes_eq (get_or xs i d).0.now (codes "--sort") ≡ true
      → SpellsKeys (get_or xs i d).1.now path.items → AreSorts (map option_of (take i xs)) es
      → AreSorts (map option_of (take (i + 1) xs)) (es ++ (Sort path ∷ []))
  sort-turn es path is spelled are =
      subst (λ os. AreSorts os (es ++ (Sort path ∷ []))) (sym grows)
      (sorts-more (map option_of (take i xs)) (option_of (get_or xs i d)) es path is spelled are)

  pub sort-passed : (es : List Edit) → bytes_eq (get_or xs i d).0.now (codes "--sort") ≡ false → AreSorts (map option_of (take i xs)) es
      → AreSorts (map option_of (take (i + 1) xs)) es
  sort-passed es other are =
      subst (λ os. AreSorts os es) (sym grows) (sorts-passed (map option_of (take i xs)) (option_of (get_or xs i d)) es other are)

  pub sort-wrong : bytes_eq (get_or xs i d).0.now (codes "--sort") ≡ true → IsNoKeys (get_or xs i d).1.now → (es : List Edit)
      → AreSorts (map option_of xs) es → ⊥
  sort-wrong is none =
      no-sorts (map option_of xs) i (option_of (get_or xs i d)) (subst (λ n. i < n) (sym (length-map xs option_of)) within)
      (sym (get_or-map option_of xs i d (option_of (get_or xs i d)) within)) is none

-- ---- a file and a path

counted : (ws : List Text) (file : Text) (path : List Key) → AreFileAndPath ws file path → (length ws ≡ 1) ⊎ (length ws ≡ 2)
counted [] file path are = absurd are
counted (w ∷ []) file path are = inl refl
counted (w ∷ (v ∷ [])) file path are = inr refl
counted (w ∷ (v ∷ (u ∷ ws))) file path are = absurd are

module _ (ws : List Text) where
  pub file-alone : (file : Text) → ws ≡ file ∷ [] → AreFileAndPath ws file []
  file-alone file is = subst (λ l. AreFileAndPath l file []) (sym is) (refl, refl)

  pub file-at : (file t : Text) (path : List Key) → ws ≡ file ∷ (t ∷ []) → SpellsPath t (names path) → AreFileAndPath ws file path
  file-at file t path is spelled = subst (λ l. AreFileAndPath l file path) (sym is) (refl, spelled)

  pub file-wrong : (file t : Text) → ws ≡ file ∷ (t ∷ []) → IsNoPath t → (name : Text) (path : List Key) → AreFileAndPath ws name path → ⊥
  file-wrong file t is none name path are = none (names path) (subst (λ l. AreFileAndPath l name path) is are).1

  pub file-others : (length ws ≡ 1 → ⊥) → (length ws ≡ 2 → ⊥) → (name : Text) (path : List Key) → AreFileAndPath ws name path → ⊥
  file-others one two name path are = elim (counted ws name path are) [ inl e ↦ one e | inr e ↦ two e ]

-- ---- whether there is an edit or a script

pub idle-so : (es : List Edit) (script : Option (Bor Text)) (r : Bool) → r ≡ ((length es == 0) && is_none script) → r ≡ true
    → (es ≡ []) × (option_copied script ≡ None)
idle-so [] None r is so = (refl, refl)
idle-so [] (Some t) r is so = let unlike : false ≡ true = sym is ∙ so in absurd cc
idle-so (e ∷ es) script r is so = let unlike : false ≡ true = sym (is ∙ ap (λ b. b && is_none script) (unequal (length es))) ∙ so in absurd cc
  where
    unequal : (n : ℕ) → (suc n == 0) ≡ false
    unequal n = not-empty n (suc n == 0) refl

pub busy-so : (es : List Edit) (script : Option (Bor Text)) (r : Bool) → r ≡ ((length es == 0) && is_none script) → r ≡ false → es ≡ []
    → script ≢ None
busy-so [] None r is so nil none = let unlike : true ≡ false = sym is ∙ so in absurd cc
busy-so [] (Some t) r is so nil none = absurd cc
busy-so (e ∷ es) script r is so nil none = absurd cc

-- ---- commands by their names

module _ (version : Version) (s : Words) where
  pub of-get : ((c : Get) → IsGet s c → ⊥) → IsNoneBy version topics.Get s
  of-get none (commands.Show t) says = says
  of-get none (commands.Ask (questions.Get c)) says = none c says
  of-get none (commands.Ask (questions.Has c)) says = says
  of-get none (commands.Ask (questions.Keys c)) says = says
  of-get none (commands.Ask (questions.Json c)) says = says
  of-get none (commands.Edit c es) says = says
  of-get none (commands.Check files) says = says
  of-get none (commands.Fmt c) says = says

  pub of-has : ((c : Has) → IsHas s c → ⊥) → IsNoneBy version topics.Has s
  of-has none (commands.Show t) says = says
  of-has none (commands.Ask (questions.Get c)) says = says
  of-has none (commands.Ask (questions.Has c)) says = none c says
  of-has none (commands.Ask (questions.Keys c)) says = says
  of-has none (commands.Ask (questions.Json c)) says = says
  of-has none (commands.Edit c es) says = says
  of-has none (commands.Check files) says = says
  of-has none (commands.Fmt c) says = says

  pub of-keys : ((file : Text) (path : List Key) → AreFileAndPath s.operands file path → ⊥) → IsNoneBy version topics.Keys s
  of-keys none (commands.Show t) says = says
  of-keys none (commands.Ask (questions.Get c)) says = says
  of-keys none (commands.Ask (questions.Has c)) says = says
  of-keys none (commands.Ask (questions.Keys c)) says = none c.file.now c.path.items says.0
  of-keys none (commands.Ask (questions.Json c)) says = says
  of-keys none (commands.Edit c es) says = says
  of-keys none (commands.Check files) says = says
  of-keys none (commands.Fmt c) says = says

  pub of-json : ((file : Text) (path : List Key) → AreFileAndPath s.operands file path → ⊥) → IsNoneBy version topics.Json s
  of-json none (commands.Show t) says = says
  of-json none (commands.Ask (questions.Get c)) says = says
  of-json none (commands.Ask (questions.Has c)) says = says
  of-json none (commands.Ask (questions.Keys c)) says = says
  of-json none (commands.Ask (questions.Json c)) says = none c.file.now c.path.items says
  of-json none (commands.Edit c es) says = says
  of-json none (commands.Check files) says = says
  of-json none (commands.Fmt c) says = says

  pub of-edit : ((c : EditCommand) (es : List Edit) → IsEdit version s c es → ⊥) → IsNoneBy version topics.Edit s
  of-edit none (commands.Show t) says = says
  of-edit none (commands.Ask (questions.Get c)) says = says
  of-edit none (commands.Ask (questions.Has c)) says = says
  of-edit none (commands.Ask (questions.Keys c)) says = says
  of-edit none (commands.Ask (questions.Json c)) says = says
  of-edit none (commands.Edit c es) says = none c es.items says
  of-edit none (commands.Check files) says = says
  of-edit none (commands.Fmt c) says = says

  pub of-check : s.operands ≡ [] → IsNoneBy version topics.Check s
  of-check none (commands.Show t) says = says
  of-check none (commands.Ask (questions.Get c)) says = says
  of-check none (commands.Ask (questions.Has c)) says = says
  of-check none (commands.Ask (questions.Keys c)) says = says
  of-check none (commands.Ask (questions.Json c)) says = says
  of-check none (commands.Edit c es) says = says
  of-check none (commands.Check files) says = says.1 none
  of-check none (commands.Fmt c) says = says

  pub of-fmt : ((c : Fmt) → IsFmt s c → ⊥) → IsNoneBy version topics.Fmt s
  of-fmt none (commands.Show t) says = says
  of-fmt none (commands.Ask (questions.Get c)) says = says
  of-fmt none (commands.Ask (questions.Has c)) says = says
  of-fmt none (commands.Ask (questions.Keys c)) says = says
  of-fmt none (commands.Ask (questions.Json c)) says = says
  of-fmt none (commands.Edit c es) says = says
  of-fmt none (commands.Check files) says = says
  of-fmt none (commands.Fmt c) says = none c says

  -- no command has the name of the program
  pub of-program : IsNoneBy version topics.Program s
  of-program (commands.Show t) says = says
  of-program (commands.Ask (questions.Get c)) says = says
  of-program (commands.Ask (questions.Has c)) says = says
  of-program (commands.Ask (questions.Keys c)) says = says
  of-program (commands.Ask (questions.Json c)) says = says
  of-program (commands.Edit c es) says = says
  of-program (commands.Check files) says = says
  of-program (commands.Fmt c) says = says

  -- ---- why the operands are wrong

  pub get-empty : s.operands ≡ [] → IsNoneBy version topics.Get s
  get-empty none = of-get (λ c is. let e : [] ≡ c.file.now ∷ is.texts = sym none ∙ is.operands in absurd cc)

  pub get-alone : (file : Text) → s.operands ≡ file ∷ [] → IsNoneBy version topics.Get s
  get-alone file one = of-get (λ c is. let e : file ∷ [] ≡ c.file.now ∷ is.texts = sym one ∙ is.operands in is.some cc)

  pub get-wrong : (file : Text) (texts : List Text) → s.operands ≡ file ∷ texts → Any IsNoPath texts → IsNoneBy version topics.Get s
  get-wrong file texts at bad =
      of-get (λ c is.
      let e : file ∷ texts ≡ c.file.now ∷ is.texts = sym at ∙ is.operands in let same : is.texts ≡ texts = cc in
      no-paths texts (map (λ path. path.items) c.paths.items) bad
      (subst (λ l. ArePaths l (map (λ path. path.items) c.paths.items)) same is.paths))

  has-count : (c : Has) → IsHas s c → (length s.operands ≡ 2) ⊎ (length s.operands ≡ 3)
  has-count c (path, [], is, spelled, kind) = inl (ap length is)
  has-count c (path, w ∷ [], is, spelled, kind) = inr (ap length is)
  has-count c (path, w ∷ (v ∷ more), is, spelled, kind) = absurd kind

  pub has-others : (length s.operands ≡ 2 → ⊥) → (length s.operands ≡ 3 → ⊥) → IsNoneBy version topics.Has s
  has-others two three = of-has (λ c is. elim (has-count c is) [ inl e ↦ two e | inr e ↦ three e ])

  pub has-wrong : (file path : Text) (more : List Text) → s.operands ≡ file ∷ (path ∷ more) → IsNoPath path → IsNoneBy version topics.Has s
  has-wrong file path more at none =
      of-has (λ c is.
      let e : file ∷ (path ∷ more) ≡ c.file.now ∷ (is.0 ∷ is.1) = sym at ∙ is.2 in let same : is.0 ≡ path = cc in
      none (names c.path.items) (subst (λ (t : Text). SpellsPath t (names c.path.items)) same is.3))

  pub has-no-kind : (file path kind : Text) → s.operands ≡ file ∷ (path ∷ (kind ∷ [])) → kind_named kind ≡ None → IsNoneBy version topics.Has s
  has-no-kind file path kind at none =
      of-has (λ c is.
      let e : file ∷ (path ∷ (kind ∷ [])) ≡ c.file.now ∷ (is.0 ∷ is.1) = sym at ∙ is.2 in let same : is.1 ≡ kind ∷ [] = cc in
      let k : IsTrue (is_some c.kind) × (c.kind ≡ kind_named kind) = subst (λ l. IsKind l c.kind) same is.4 in
      let unlike : false ≡ true = sym (ap (λ (o : Option Kind). is_some o) (k.1 ∙ none)) ∙ k.0 in absurd cc)

  pub edit-empty : s.operands ≡ [] → IsNoneBy version topics.Edit s
  edit-empty none = of-edit (λ c es is. let e : [] ≡ c.file.now ∷ is.words = sym none ∙ is.operands in absurd cc)

  pub edit-wrong : (file : Text) (ws : List Text) → s.operands ≡ file ∷ ws → ((es : List Edit) → SaysApart version ws es → ⊥)
      → IsNoneBy version topics.Edit s
  edit-wrong file ws at none =
      of-edit (λ c es is.
      let e : file ∷ ws ≡ c.file.now ∷ is.words = sym at ∙ is.operands in let same : is.words ≡ ws = cc in
      none es (subst (λ l. SaysApart version l es) same is.said))

  -- there is neither an edit nor a script
  pub edit-nothing : (file : Text) (ws : List Text) → s.operands ≡ file ∷ ws → SaysApart version ws [] → last_of (codes "--script") s.options ≡ None
      → IsNoneBy version topics.Edit s
  edit-nothing file ws at empty none =
      of-edit (λ c es is.
      let e : file ∷ ws ≡ c.file.now ∷ is.words = sym at ∙ is.operands in let same : is.words ≡ [] = let w : is.words ≡ ws = cc in w ∙ empty in
      is.some (no-edits es (subst (λ l. SaysApart version l es) same is.said)) (uncopied c.script (is.script ∙ none)))
    where
      no-edits : (es : List Edit) → SaysApart version [] es → es ≡ []
      no-edits [] said = refl
      no-edits (e ∷ es) said = absurd (empty-says-none version (e ∷ es) (λ none. absurd cc) said)

      uncopied : (o : Option (Bor Text)) → option_copied o ≡ None → o ≡ None
      uncopied None is = refl
      uncopied (Some t) is = absurd cc

  pub fmt-empty : s.operands ≡ [] → IsNoneBy version topics.Fmt s
  fmt-empty none = of-fmt (λ c is. is.some none)

  pub fmt-wrong : ((es : List Edit) → AreSorts s.options es → ⊥) → IsNoneBy version topics.Fmt s
  fmt-wrong none = of-fmt (λ c is. none c.style.sorts.items is.sorts)

  pub fmt-refused : are_taken (rules_in s.options) ≡ false → IsNoneBy version topics.Fmt s
  fmt-refused wrong = of-fmt (λ c is. let e : true ≡ false = sym is.taken ∙ wrong in cc)
