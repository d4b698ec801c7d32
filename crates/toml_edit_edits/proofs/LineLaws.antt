-- What an array prints after a value is inserted or removed with its line.
use Rattle.std.proofs.Common.{◌≡◌, ◌∙◌, refl, sym, ap, Bool, true, false, List, [], ◌∷◌, ◌++◌, Some, None, append_assoc, append-nil}
use Rattle.std.specs.Prelude.{◌||◌, not, codes}
use Rattle.std.specs.List.{list_all}
use Rattle.toml_edit_model.specs.Comments.{after_first_line, first_line}
use Rattle.toml_edit_model.specs.Conversions.{with_decor}
use Rattle.toml_edit_model.specs.Lists.{items_from}
use Rattle.toml_edit_model.specs.Mode.{Mode, shown_text}
use Rattle.toml_edit_model.specs.Print.{add_after, around_of, close_array, element_default, elements_of, value_of}
use Rattle.toml_edit_model.specs.Syntax.{Around, Elements, no_elements, element, Value, comma_text, elements_text, value_text}
use Rattle.toml_edit_model.specs.Text.{Text, is_empty}
use Rattle.toml_edit_model.specs.Tree.{ArrayFields, Decor, Node, owned, leaf, list, inline, table, tables, nothing, is_value_node, node_decor, shown_raw, shown_side, shown_prefix, shown_suffix}
use Rattle.toml_edit_laws.proofs.common.Tests.{and_left, and_right}
use Rattle.toml_edit_tree.specs.ArrayLines.{is_broken, placed, with_prefix}
use Rattle.toml_edit_edits.specs.LinesStay.{BeginsLine, HasLinesMore, text_of}
use Rattle.toml_edit_edits.proofs.LineTexts.{begins-more, begins-shown, cut-line, rest-begins, shown-append}

-- ---- texts that are the same but for lines

pub longer-front : (v a b x : Text) → HasLinesMore v a b → HasLinesMore v (x ++ a) (x ++ b)
longer-front v a b x h = record {
  before = x ++ h.before;
  lines = h.lines;
  after = h.after;
  first_is = ap (λ t. x ++ t) h.first_is ∙ sym (append_assoc x h.before h.after);
  second_is = ap (λ t. x ++ t) h.second_is ∙ sym (append_assoc x h.before (h.lines ++ h.after));
  begins = h.begins;
  goes_on = h.goes_on;
  on_them = h.on_them;
}

pub longer-back : (v a b x : Text) → HasLinesMore v a b → HasLinesMore v (a ++ x) (b ++ x)
longer-back v a b x h = record {
  before = h.before;
  lines = h.lines;
  after = h.after ++ x;
  first_is = ap (λ t. t ++ x) h.first_is ∙ append_assoc h.before h.after x;
  second_is = ap (λ t. t ++ x) h.second_is ∙ append_assoc h.before (h.lines ++ h.after) x ∙ ap (λ t. h.before ++ t) (append_assoc h.lines h.after x);
  begins = h.begins;
  goes_on = begins-more h.after x h.goes_on;
  on_them = h.on_them;
}

module _ (mode : Mode) where
  abbrev sh : Text → Text
  sh t = shown_text mode t

  -- ---- what an array prints, value by value

  abbrev pub chunk : Bool → Node → Text → Text
  chunk is_first n t =
      shown_prefix mode (element_default is_first) (node_decor n)
      ++ (text_of mode n ++ (shown_suffix mode [] (node_decor n) ++ t))

  abbrev pub body : Bool → Text → List Node → Bool → Text
  body comma t [] is_first = t
  body comma t (n ∷ ns) is_first = chunk is_first n (comma_text (comma || not (is_empty ns)) ++ body comma t ns false)

  chunk-more : (is_first : Bool) (n : Node) (t z : Text) → chunk is_first n t ++ z ≡ chunk is_first n (t ++ z)
  chunk-more is_first n t z =
      let a = shown_prefix mode (element_default is_first) (node_decor n) in
      let b = text_of mode n in
      let c = shown_suffix mode [] (node_decor n) in
      append_assoc a (b ++ (c ++ t)) z
      ∙ ap (λ x. a ++ x) (append_assoc b (c ++ t) z ∙ ap (λ x. b ++ x) (append_assoc c t z))

  -- the elements of values
  one-more : (n : Node) (ns : List Node) (is_first : Bool) → is_value_node n ≡ true → elements_of mode (items_from (n ∷ ns)) is_first
      ≡ element (around_of mode is_first (node_decor n)) (value_of mode n) (elements_of mode (items_from ns) false)
  one-more (leaf s r d) ns is_first h = refl
  one-more (list f xs) ns is_first h = refl
  one-more (inline f ss) ns is_first h = refl
  one-more (table f ss) ns is_first h = absurd cc
  one-more (tables e xs) ns is_first h = absurd cc
  one-more nothing ns is_first h = absurd cc

  with-comma : (ns : List Node) (n : Node) (t : Text) (is_first : Bool) → list_all is_value_node (n ∷ ns) ≡ true
      → elements_text (elements_of mode (items_from (n ∷ ns)) is_first) ++ (codes "," ++ t) ≡ body true t (n ∷ ns) is_first
  with-comma [] n t is_first h =
      ap (λ es. elements_text es ++ (codes "," ++ t)) (one-more n [] is_first (and_left (is_value_node n) true h))
      ∙ ap (λ x. x ++ (codes "," ++ t)) (ap (λ x. shown_prefix mode (element_default is_first) (node_decor n) ++ (text_of mode n ++ x))
      (sym (append-nil (shown_suffix mode [] (node_decor n)))))
      ∙ chunk-more is_first n [] (codes "," ++ t)
  with-comma (m ∷ ns) n t is_first h =
      let a = and_left (is_value_node n) (list_all is_value_node (m ∷ ns)) h in
      let b = and_right (is_value_node n) (list_all is_value_node (m ∷ ns)) h in
      ap (λ es. elements_text es ++ (codes "," ++ t)) (one-more n (m ∷ ns) is_first a
      ∙ ap (element (around_of mode is_first (node_decor n)) (value_of mode n)) (one-more m ns false (and_left (is_value_node m) (list_all is_value_node ns) b)))
      ∙ chunk-more is_first n (codes "," ++ elements_text (element (around_of mode false (node_decor m)) (value_of mode m) (elements_of mode (items_from ns) false))) (codes "," ++ t)
      ∙ ap (λ es. chunk is_first n (codes "," ++ (elements_text es ++ (codes "," ++ t)))) (sym (one-more m ns false (and_left (is_value_node m) (list_all is_value_node ns) b)))
      ∙ ap (λ x. chunk is_first n (codes "," ++ x)) (with-comma ns m t false b)

  without-comma : (ns : List Node) (n : Node) (t : Text) (is_first : Bool) → list_all is_value_node (n ∷ ns) ≡ true
      → elements_text (add_after t (elements_of mode (items_from (n ∷ ns)) is_first)) ≡ body false t (n ∷ ns) is_first
  without-comma [] n t is_first h = ap (λ es. elements_text (add_after t es)) (one-more n [] is_first (and_left (is_value_node n) true h))
  without-comma (m ∷ ns) n t is_first h =
      let a = and_left (is_value_node n) (list_all is_value_node (m ∷ ns)) h in
      let b = and_right (is_value_node n) (list_all is_value_node (m ∷ ns)) h in
      let c = one-more m ns false (and_left (is_value_node m) (list_all is_value_node ns) b) in
      ap (λ es. elements_text (add_after t es)) (one-more n (m ∷ ns) is_first a
      ∙ ap (element (around_of mode is_first (node_decor n)) (value_of mode n)) c)
      ∙ next (around_of mode false (node_decor m)) (value_of mode m) (elements_of mode (items_from ns) false)
      ∙ ap (λ es. chunk is_first n (codes "," ++ elements_text (add_after t es))) (sym c)
      ∙ ap (λ x. chunk is_first n (codes "," ++ x)) (without-comma ns m t false b)
    where
      next : (x : Around) (v : Value) (es : Elements) → elements_text (add_after t (element (around_of mode is_first (node_decor n)) (value_of mode n) (element x v es)))
          ≡ chunk is_first n (codes "," ++ elements_text (add_after t (element x v es)))
      next x v no_elements = refl
      next x v (element y w es) = refl

  pub array-text : (f : ArrayFields) (xs : List Node) → list_all is_value_node xs ≡ true
      → text_of mode (list f (items_from xs)) ≡ codes "[" ++ (body f.comma (shown_raw mode f.trailing) xs true ++ codes "]")
  array-text f [] h = refl
  array-text f (n ∷ ns) h = by_comma f.comma
    where
      t : Text
      t = shown_raw mode f.trailing

      e : elements_of mode (items_from (n ∷ ns)) true
          ≡ element (around_of mode true (node_decor n)) (value_of mode n) (elements_of mode (items_from ns) false)
      e = one-more n ns true (and_left (is_value_node n) (list_all is_value_node ns) h)

      by_comma : (b : Bool) → value_text (close_array b t (elements_of mode (items_from (n ∷ ns)) true))
          ≡ codes "[" ++ (body b t (n ∷ ns) true ++ codes "]")
      by_comma true =
          ap (λ es. value_text (close_array true t es)) e
          ∙ ap (λ es. codes "[" ++ (elements_text es ++ (codes "," ++ (t ++ codes "]")))) (sym e)
          ∙ ap (λ x. codes "[" ++ x) (sym (append_assoc (elements_text (elements_of mode (items_from (n ∷ ns)) true)) (codes "," ++ t) (codes "]"))
          ∙ ap (λ x. x ++ codes "]") (with-comma ns n t true h))
      by_comma false =
          ap (λ es. value_text (close_array false t es)) e
          ∙ ap (λ es. codes "[" ++ (elements_text (add_after t es) ++ codes "]")) (sym e)
          ∙ ap (λ x. codes "[" ++ (x ++ codes "]")) (without-comma ns n t true h)

  -- the comma of an empty array is not printed
  pub no-values : (a b : Bool) (t : Text) (xs : List Node) (is_first : Bool) → xs ≡ [] → body a t xs is_first ≡ body b t xs is_first
  no-values a b t xs is_first e = rw e refl

  -- ---- a value with another decor

  same-value : (d : Decor) (n : Node) → text_of mode (with_decor d n) ≡ text_of mode n
  same-value d (leaf s r e) = refl
  same-value d (list f xs) = refl
  same-value d (inline f ss) = refl
  same-value d (table f ss) = refl
  same-value d (tables e xs) = refl
  same-value d nothing = refl

  decor-is : (d : Decor) (n : Node) → is_value_node n ≡ true → node_decor (with_decor d n) ≡ d
  decor-is d (leaf s r e) h = refl
  decor-is d (list f xs) h = refl
  decor-is d (inline f ss) h = refl
  decor-is d (table f ss) h = absurd cc
  decor-is d (tables e xs) h = absurd cc
  decor-is d nothing h = absurd cc

  pub chunk-owned : (is_first : Bool) (n : Node) (g t : Text) → (node_decor n).prefix ≡ Some (owned g)
      → chunk is_first n t ≡ sh g ++ (text_of mode n ++ (shown_suffix mode [] (node_decor n) ++ t))
  chunk-owned is_first n g t h =
      ap (λ p. shown_side mode (element_default is_first) p ++ (text_of mode n ++ (shown_suffix mode [] (node_decor n) ++ t))) h

  pub chunk-prefixed : (is_first : Bool) (n : Node) (g t : Text) → is_value_node n ≡ true
      → chunk is_first (with_prefix (owned g) n) t ≡ sh g ++ (text_of mode n ++ (shown_suffix mode [] (node_decor n) ++ t))
  chunk-prefixed is_first n g t h =
      let d = record (node_decor n) { prefix = Some (owned g) } in
      ap (λ (e : Decor). shown_prefix mode (element_default is_first) e ++ (text_of mode (with_decor d n) ++ (shown_suffix mode [] e ++ t))) (decor-is d n h)
      ∙ ap (λ x. sh g ++ (x ++ (shown_suffix mode [] (node_decor n) ++ t))) (same-value d n)

  pub chunk-placed : (is_first : Bool) (n : Node) (g t : Text) → is_value_node n ≡ true
      → chunk is_first (placed (owned g) n) t ≡ sh g ++ (text_of mode n ++ t)
  chunk-placed is_first n g t h =
      let d : Decor = record { prefix = Some (owned g); suffix = None } in
      ap (λ (e : Decor). shown_prefix mode (element_default is_first) e ++ (text_of mode (with_decor d n) ++ (shown_suffix mode [] e ++ t))) (decor-is d n h)
      ∙ ap (λ x. sh g ++ (x ++ t)) (same-value d n)

  -- ---- the place where they differ

  -- a gap cut where its first line ends
  sh-cut : (g : Text) → is_broken g ≡ true → sh g ≡ sh (first_line g) ++ sh (after_first_line g)
  sh-cut g h = ap sh (sym (cut-line g h)) ∙ shown-append mode (first_line g) (after_first_line g)

  sh-begins : (g t : Text) → is_broken g ≡ true → BeginsLine (sh (after_first_line g) ++ t)
  sh-begins g t h = begins-more (sh (after_first_line g)) t (begins-shown mode (after_first_line g) (rest-begins g h))

  -- what is between two gaps goes, with its lines
  pub gap-less : (g h v s t : Text) → is_broken g ≡ true → is_broken h ≡ true
      → HasLinesMore v (sh (first_line g ++ after_first_line h) ++ t) (sh g ++ (v ++ (s ++ (sh h ++ t))))
  gap-less g h v s t broken also = record {
    before = sh (first_line g);
    lines = sh (after_first_line g) ++ (v ++ (s ++ sh (first_line h)));
    after = sh (after_first_line h) ++ t;
    first_is = ap (λ x. x ++ t) (shown-append mode (first_line g) (after_first_line h))
        ∙ append_assoc (sh (first_line g)) (sh (after_first_line h)) t;
    second_is = ap (λ x. x ++ (v ++ (s ++ (sh h ++ t)))) (sh-cut g broken)
        ∙ append_assoc (sh (first_line g)) (sh (after_first_line g)) (v ++ (s ++ (sh h ++ t)))
        ∙ ap (λ x. sh (first_line g) ++ (sh (after_first_line g) ++ (v ++ (s ++ (x ++ t))))) (sh-cut h also)
        ∙ ap (λ x. sh (first_line g) ++ x) (regroup (sh (after_first_line g)) v s (sh (first_line h)) (sh (after_first_line h)) t);
    begins = sh-begins g (v ++ (s ++ sh (first_line h))) broken;
    goes_on = sh-begins h t also;
    on_them = (sh (after_first_line g), s ++ sh (first_line h), refl);
  }
    where
      regroup : (a v s b c t : Text) → a ++ (v ++ (s ++ ((b ++ c) ++ t))) ≡ (a ++ (v ++ (s ++ b))) ++ (c ++ t)
      regroup a v s b c t =
          ap (λ x. a ++ (v ++ (s ++ x))) (append_assoc b c t) ∙ ap (λ x. a ++ (v ++ x)) (sym (append_assoc s b (c ++ t)))
          ∙ ap (λ x. a ++ x) (sym (append_assoc v (s ++ b) (c ++ t))) ∙ sym (append_assoc a (v ++ (s ++ b)) (c ++ t))

  -- a value comes into a gap, on lines of its own
  pub gap-more : (g above after v s t : Text) → is_broken g ≡ true → BeginsLine above
      → HasLinesMore v (sh g ++ t) (sh (first_line g ++ above) ++ (v ++ (s ++ (sh (after ++ after_first_line g) ++ t))))
  gap-more g above after v s t broken begun = record {
    before = sh (first_line g);
    lines = sh above ++ (v ++ (s ++ sh after));
    after = sh (after_first_line g) ++ t;
    first_is = ap (λ x. x ++ t) (sh-cut g broken) ∙ append_assoc (sh (first_line g)) (sh (after_first_line g)) t;
    second_is = ap (λ x. x ++ (v ++ (s ++ (sh (after ++ after_first_line g) ++ t)))) (shown-append mode (first_line g) above)
        ∙ append_assoc (sh (first_line g)) (sh above) (v ++ (s ++ (sh (after ++ after_first_line g) ++ t)))
        ∙ ap (λ x. sh (first_line g) ++ (sh above ++ (v ++ (s ++ (x ++ t))))) (shown-append mode after (after_first_line g))
        ∙ ap (λ x. sh (first_line g) ++ x) (regroup (sh above) v s (sh after) (sh (after_first_line g)) t);
    begins = begins-more (sh above) (v ++ (s ++ sh after)) (begins-shown mode above begun);
    goes_on = sh-begins g t broken;
    on_them = (sh above, s ++ sh after, refl);
  }
    where
      regroup : (a v s b c t : Text) → a ++ (v ++ (s ++ ((b ++ c) ++ t))) ≡ (a ++ (v ++ (s ++ b))) ++ (c ++ t)
      regroup a v s b c t =
          ap (λ x. a ++ (v ++ (s ++ x))) (append_assoc b c t) ∙ ap (λ x. a ++ (v ++ x)) (sym (append_assoc s b (c ++ t)))
          ∙ ap (λ x. a ++ x) (sym (append_assoc v (s ++ b) (c ++ t))) ∙ sym (append_assoc a (v ++ (s ++ b)) (c ++ t))
