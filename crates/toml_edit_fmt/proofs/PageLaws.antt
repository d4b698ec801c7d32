-- A page that gains one text after another, and the spaces before comments.
use Rattle.std.proofs.Common.{◌≡◌, refl, sym, ap, ◌∙◌, ℕ, zero, suc, ◌+◌, ◌-◌, ◌<◌, ◌==◌, arith, false, List, [], ◌∷◌, ◌++◌, length, get_or, string_bytes, append-nil, append_assoc}
use Rattle.std.specs.Prelude.{◌&&◌}
use Rattle.std.specs.List.{repeat}
use Rattle.std.proofs.lemmas.Bool.Decides.{Decides-eqb}
use Rattle.toml_edit_laws.proofs.common.Tests.{false-by}
use Rattle.toml_edit_model.specs.Text.{Text, one}
use Rattle.toml_edit_fmt_laws.specs.Aligned.{newlines}
use Rattle.toml_edit_fmt_laws.specs.Rules.{Comments, spaces, units}
use Rattle.toml_edit_fmt.specs.PageView.{Bit, letters, place, Gains, Grows, Written, grown, grown_by, is_last_above, parts_of, written}
use Rattle.toml_edit_fmt.specs.RulesView.{comments_of, rules_of}
use Rattle.toml_edit_fmt.specs.declared.page.Part as code
use Rattle.toml_edit_fmt.specs.declared.page.Page.{Page}

pub repeat-more : (n : ℕ) (t : Text) → repeat (n + 1) t ≡ repeat n t ++ t
repeat-more zero t = append-nil t
repeat-more (suc n) t =
    let e : suc n + 1 ≡ suc (n + 1) = omega arith in
    ap (λ k. repeat k t) e ∙ ap (λ u. t ++ u) (repeat-more n t) ∙ sym (append_assoc t (repeat n t) t)

-- ---- texts one after another

pub gains-nothing : (p : Page) → Gains [] p p
gains-nothing p = record { source = refl; rules = refl; text = sym (append-nil (string_bytes p.text)); run = refl }

pub gains-both : (s t : Text) (a b c : Page) → Gains s a b → Gains t b c → Gains (s ++ t) a c
gains-both s t a b c g h =
    record {
      source = h.source ∙ g.source;
      rules = h.rules ∙ g.rules;
      text = h.text ∙ ap (λ u. u ++ t) g.text ∙ append_assoc (string_bytes a.text) s t;
      run = h.run ∙ g.run;
    }

pub gains-as : (s t : Text) (a b : Page) → s ≡ t → Gains s a b → Gains t a b
gains-as s t a b e g = record { source = g.source; rules = g.rules; text = g.text ∙ ap (λ u. string_bytes a.text ++ u) e; run = g.run }

pub gains-unit : (a b c : Page) (n : ℕ) → Gains (units (rules_of a.rules) n) a b → Gains (spaces b.rules.unit) b c
    → Gains (units (rules_of a.rules) (n + 1)) a c
gains-unit a b c n g h =
    let unit = spaces a.rules.unit in
    gains-as (units (rules_of a.rules) n ++ unit) (units (rules_of a.rules) (n + 1)) a c (sym (repeat-more n unit))
    (gains-both (units (rules_of a.rules) n) unit a b c g (gains-as (spaces b.rules.unit) unit b c (ap (λ r. spaces r.unit) g.rules) h))

-- ---- runs

module _ (depth : ℕ) (t : Text) where
  last-is : (ps : List code.Part) (p : code.Part) → 0 < length ps → p ≡ get_or ps (length ps - 1) p
      → is_last_above depth t (parts_of ps) ≡ (p.depth == depth) && (newlines t == 1)
  last-is [] p some is = absurd (omega arith)
  last-is (q ∷ []) p some is = ap (λ (r : code.Part). (r.depth == depth) && (newlines t == 1)) (sym is)
  last-is (q ∷ r ∷ ps) p some is =
      let e : length (q ∷ r ∷ ps) - 1 ≡ suc (length (r ∷ ps) - 1) = omega arith in
      last-is (r ∷ ps) p (omega arith) (is ∙ ap (λ n. get_or (q ∷ r ∷ ps) n p) e)

  module _ (ps items : List code.Part) (p : code.Part) (same : items ≡ ps) (some : 0 < length items) (is : p ≡ get_or items (length items - 1) p) where
    last : is_last_above depth t (parts_of ps) ≡ (p.depth == depth) && (newlines t == 1)
    last = ap (λ (qs : List code.Part). is_last_above depth t (parts_of qs)) (sym same) ∙ last-is items p some is

    pub last-beside : p.depth ≡ depth → is_last_above depth t (parts_of ps) ≡ (newlines t == 1)
    last-beside e = last ∙ ap (λ b. b && (newlines t == 1)) ((Decides-eqb _ _).1 e)

    pub last-apart : (p.depth ≡ depth → ⊥) → is_last_above depth t (parts_of ps) ≡ (p.depth == depth)
    last-apart e =
        let no : (p.depth == depth) ≡ false = false-by (p.depth == depth) (λ yes. e ((Decides-eqb _ _).0 yes)) in
        last ∙ ap (λ b. b && (newlines t == 1)) no ∙ sym no

-- ---- bits

pub grown-append : (c : Comments) (xs ys : List Bit) (w : _) → grown c (xs ++ ys) w ≡ grown c ys (grown c xs w)
grown-append c [] ys w = refl
grown-append c (x ∷ xs) ys w = grown-append c xs ys (grown_by c x w)

pub grows-by : (t : Text) (a b : Page) → Gains t a b → Grows (one (letters t)) a b
grows-by t a b g =
    record {
      source = g.source;
      rules = g.rules;
      written = ap (λ u. record { run = parts_of u.items; text = string_bytes b.text }) g.run
          ∙ ap (λ u. record { run = parts_of a.run.items; text = u }) g.text;
    }

pub grows-both : (xs ys : List Bit) (a b c : Page) → Grows xs a b → Grows ys b c → Grows (xs ++ ys) a c
grows-both xs ys a b c g h =
    record {
      source = h.source ∙ g.source;
      rules = h.rules ∙ g.rules;
      written = h.written ∙ ap (λ r. grown (comments_of r.comments) ys (written b)) g.rules
          ∙ ap (grown (comments_of a.rules.comments) ys) g.written
          ∙ sym (grown-append (comments_of a.rules.comments) xs ys (written a));
    }

pub grows-as : (xs ys : List Bit) (a b : Page) → xs ≡ ys → Grows xs a b → Grows ys a b
grows-as xs ys a b e g =
    record { source = g.source; rules = g.rules; written = g.written ∙ ap (λ u. grown (comments_of a.rules.comments) u (written a)) e }

-- ---- bits without places

abbrev pub HasNoPlace : List Bit → Type 0
HasNoPlace [] = Unit {0}
HasNoPlace (letters t ∷ bs) = HasNoPlace bs
HasNoPlace (place depth ∷ bs) = ⊥

abbrev pub all_letters : List Bit → Text
all_letters [] = []
all_letters (letters t ∷ bs) = t ++ all_letters bs
all_letters (place depth ∷ bs) = all_letters bs

-- they are a text
pub grown-text : (c : Comments) (bs : List Bit) (w : Written) → HasNoPlace bs
    → grown c bs w ≡ record { run = w.run; text = w.text ++ all_letters bs }
grown-text c [] w none = ap (λ t. record { run = w.run; text = t }) (sym (append-nil w.text))
grown-text c (letters t ∷ bs) w none =
    grown-text c bs (record { run = w.run; text = w.text ++ t }) none
    ∙ ap (λ u. record { run = w.run; text = u }) (append_assoc w.text t (all_letters bs))
grown-text c (place depth ∷ bs) w none = absurd none

pub no-place-append : (xs ys : List Bit) → HasNoPlace xs → HasNoPlace ys → HasNoPlace (xs ++ ys)
no-place-append [] ys h k = k
no-place-append (letters t ∷ xs) ys h k = no-place-append xs ys h k
no-place-append (place depth ∷ xs) ys h k = absurd h

pub letters-append : (xs ys : List Bit) → all_letters (xs ++ ys) ≡ all_letters xs ++ all_letters ys
letters-append [] ys = refl
letters-append (letters t ∷ xs) ys =
    ap (λ u. t ++ u) (letters-append xs ys) ∙ sym (append_assoc t (all_letters xs) (all_letters ys))
letters-append (place depth ∷ xs) ys = letters-append xs ys
