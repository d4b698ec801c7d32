-- A suffix of whole trivia that has a newline, as inside an array, stays whole trivia when the comment of its first line is changed.
use Rattle.std.proofs.Common.{◌≡◌, refl, sym, ap, subst, ◌∙◌, ℕ, ◌==◌, inl, inr, Bool, true, false, not, List, [], ◌∷◌, ◌++◌, drop, length}
use Rattle.std.proofs.Common.{append_assoc, append-nil}
use Rattle.std.specs.Prelude.{if◌then◌else◌, is_some, ◌&&◌, ◌||◌}
use Rattle.std.specs.List.{before_first, flat_map, list_all, AllByRecursion}
use Rattle.std.proofs.lemmas.Bool.Decides.{Decides-eqb}
use Rattle.std.proofs.Math.Seq.{drop-append_seam}
use Rattle.toml_edit_model.specs.Text.{Text, line_feed, carriage_return, newline, one, joined, without_returns, has_byte}
use Rattle.toml_edit_model.specs.Mode.{Mode, plain, exact, shown_text, ends_in_return, but_last, line_end}
use Rattle.toml_edit_model.specs.Trivia.{is_blank, is_visible, Each, Newline, lf, crlf, newline_text, comment, Piece, blank, break, remark}
use Rattle.toml_edit_model.specs.Trivia.{piece_text, IsPiece, IsWholeTrivia, IsLineEnd}
use Rattle.toml_edit_model.specs.Comments.{begun_with, lines, first_line, after_first_line, first_comment, before_comment}
use Rattle.toml_edit_model.specs.Comments.{with_first_comment, without_first_comment}
use Rattle.toml_edit_laws.proofs.common.Tests.{and_left, and_right}
use Rattle.toml_edit_laws.proofs.common.Trivia.{empty-end, shown-append}
use Rattle.toml_edit_laws.proofs.common.WhiteSpace.{shown-none}
use Rattle.toml_edit_repr.proofs.CommentsSuit.{not_feed, NoFeed, white-whole, whole-append, lines-run, lines-suit, joined-suits}
use Rattle.toml_edit_repr.proofs.CommentsSuit.{lean-return, lean-other, last-kept, before-feed, put-line}

-- ---- the end of a line before its newline

end-whole : (x : Text) (n : Newline) → IsLineEnd x → IsWholeTrivia (x ++ newline_text n)
end-whole x n (white, rest, h, inl none, e) =
    subst (λ u. IsWholeTrivia (u ++ newline_text n)) (sym (e ∙ ap (λ u. white ++ u) none ∙ append-nil white))
    (whole-append white (newline_text n) (white-whole white h) (break n ∷ [], (tt, tt), sym (append-nil (newline_text n))))
end-whole x n (white, rest, h, inr (body, g, is), e) =
    subst (λ u. IsWholeTrivia (u ++ newline_text n)) (sym (e ∙ ap (λ u. white ++ u) is))
    (subst IsWholeTrivia (sym (append_assoc white (comment body) (newline_text n)))
    (whole-append white (comment body ++ newline_text n) (white-whole white h) (
      remark body n ∷ [],
      (g, tt),
      sym (append-nil (comment body ++ newline_text n)),
    )))

-- the newline after the text is all of one
abbrev Closed : Text → Newline → Type 0
Closed x lf = ends_in_return x ≡ false
Closed x crlf = Unit {0}

closed-tail : (c : ℕ) (x : Text) (n : Newline) → Closed (c ∷ x) n → Closed x n
closed-tail c [] lf h = refl
closed-tail c (d ∷ x) lf h = h
closed-tail c x crlf h = tt

no-feed-first : (c : ℕ) (x : Text) → c ≡ line_feed → NoFeed (c ∷ x) → ⊥
no-feed-first c x e h = let clash : false ≡ true = and_left false (list_all not_feed x) (subst (λ d. NoFeed (d ∷ x)) e h) in cc

-- no CR LF begins such a text before its newline
no-crlf : (c : ℕ) (x rest : Text) (n : Newline) → NoFeed x → Closed (c ∷ x) n → c ≡ carriage_return → x ++ newline_text n ≡ line_feed ∷ rest
    → ⊥
no-crlf c [] rest lf h g e is = let clash : true ≡ false = sym ((Decides-eqb c carriage_return).1 e) ∙ g in cc
no-crlf c [] rest crlf h g e is = cc
no-crlf c (d ∷ x) rest n h g e is = no-feed-first d x (cc) h

not-newline : (p : ℕ → Bool) → (p line_feed ≡ true → ⊥) → (p carriage_return ≡ true → ⊥) → (c : ℕ) (rest : Text) (n : Newline) → p c ≡ true
    → newline_text n ≡ c ∷ rest → ⊥
not-newline p feed ending c rest lf h e = let same : line_feed ≡ c = cc in feed (subst (λ d. p d ≡ true) (sym same) h)
not-newline p feed ending c rest crlf h e = let same : carriage_return ≡ c = cc in ending (subst (λ d. p d ≡ true) (sym same) h)

comment-part : (x b rest : Text) (n m : Newline) → NoFeed x → Closed x n → Each is_visible b → x ++ newline_text n ≡ b
    ++ (newline_text m ++ rest) → x ≡ b
comment-part [] [] rest n m h g v e = refl
comment-part [] (d ∷ b) rest n m h g v e =
    absurd (not-newline is_visible (λ k. let clash : is_visible line_feed ≡ true = k in cc) (λ k. let clash : is_visible carriage_return
    ≡ true = k in cc)
    d (b ++ (newline_text m ++ rest)) n (and_left (is_visible d) _ v) e)
comment-part (c ∷ x) [] rest n lf h g v e = absurd (no-feed-first c x (cc) h)
comment-part (c ∷ x) [] rest n crlf h g v e = absurd (no-crlf c x rest n (and_right (not_feed c) _ h) g (cc) (cc))
comment-part (c ∷ x) (d ∷ b) rest n m h g v e =
    let head : c ≡ d = cc in
    let tail : x ++ newline_text n ≡ b ++ (newline_text m ++ rest) = cc in
    let same = comment-part x b rest n m (and_right (not_feed c) _ h) (closed-tail c x n g) (and_right (is_visible d) _ v) tail in
    cc

whole-end : (ps : List Piece) → AllByRecursion IsPiece ps → (x : Text) (n : Newline) → NoFeed x → Closed x n → x ++ newline_text n
    ≡ flat_map piece_text ps → IsLineEnd x
whole-end ps each [] n h g e = empty-end
whole-end [] each (d ∷ x) n h g e = absurd (let clash : d ∷ (x ++ newline_text n) ≡ [] = e in cc)
whole-end (blank c ∷ ps) each (d ∷ x) n h g e =
    let head : d ≡ c = cc in
    let tail : x ++ newline_text n ≡ flat_map piece_text ps = cc in
    let (white, rest, w, o, is) = whole-end ps each.1 x n (and_right (not_feed d) _ h) (closed-tail d x n g) tail in
    (d ∷ white, rest, ap (λ b. b && list_all is_blank white) (ap is_blank head ∙ each.0) ∙ w, o, ap (λ u. d ∷ u) is)
whole-end (break lf ∷ ps) each (d ∷ x) n h g e =
    absurd (no-feed-first d x (let parts : d ∷ (x ++ newline_text n) ≡ line_feed ∷ flat_map piece_text ps = e in cc) h)
whole-end (break crlf ∷ ps) each (d ∷ x) n h g e =
    let parts : d ∷ (x ++ newline_text n) ≡ carriage_return ∷ line_feed ∷ flat_map piece_text ps = e in
    absurd (no-crlf d x (flat_map piece_text ps) n (and_right (not_feed d) _ h) g (cc) (cc))
whole-end (remark body m ∷ ps) each (d ∷ x) n h g e =
    let parts : d ∷ (x ++ newline_text n) ≡ 35 ∷ (body ++ (newline_text m ++ flat_map piece_text ps)) = e
    ∙ append_assoc (comment body) (newline_text m) (flat_map piece_text ps) in
    let head : d ≡ 35 = cc in
    let tail : x ++ newline_text n ≡ body ++ (newline_text m ++ flat_map piece_text ps) = cc in
    let same : x ≡ body = comment-part x body (flat_map piece_text ps) n m (and_right (not_feed d) _ h) (closed-tail d x n g) each.0 tail in
    ([], d ∷ x, refl, inr (body, each.0, ap (λ c. c ∷ x) head ∙ ap (λ u. 35 ∷ u) same), refl)

-- ---- the first line of a text that has a line feed

find-feed : (t : Text) → has_byte line_feed t ≡ true → (u v : Text) × NoFeed u × (t ≡ u ++ (line_feed ∷ v))
find-feed [] h = absurd (let clash : false ≡ true = h in cc)
find-feed (c ∷ t) h = by_test (c == line_feed) refl (λ k. find-feed t k)
  where
    by_test : (b : Bool) → (c == line_feed) ≡ b → (has_byte line_feed t ≡ true → (u v : Text) × NoFeed u × (t ≡ u ++ (line_feed ∷ v)))
        → (u v : Text) × NoFeed u × (c ∷ t ≡ u ++ (line_feed ∷ v))
    by_test true e ih = ([], t, refl, ap (λ d. d ∷ t) ((Decides-eqb c line_feed).0 e))
    by_test false e ih =
        let (u, v, none, is) = ih (ap (λ b. b || has_byte line_feed t) (sym e) ∙ h) in
        (c ∷ u, v, ap (λ b. not b && list_all not_feed u) e ∙ none, ap (λ w. c ∷ w) is)

joined-lines : (t : Text) → joined (lines t) ≡ t
joined-lines [] = refl
joined-lines (c ∷ t) = by_test (c == line_feed) ∙ ap (λ u. c ∷ u) (joined-lines t)
  where
    begun : (ls : List Text) → joined (begun_with c ls) ≡ c ∷ joined ls
    begun [] = refl
    begun (l ∷ ls) = refl

    by_test : (b : Bool) → joined (if b then one c ∷ lines t else begun_with c (lines t)) ≡ c ∷ joined (lines t)
    by_test true = refl
    by_test false = begun (lines t)

-- no text without its carriage returns ends in one
cons-open : (c : ℕ) (u : Text) → (c == carriage_return) ≡ false → ends_in_return u ≡ false → ends_in_return (c ∷ u) ≡ false
cons-open c [] e h = e
cons-open c (d ∷ u) e h = h

lean-open : (t : Text) → ends_in_return (without_returns t) ≡ false
lean-open [] = refl
lean-open (c ∷ t) = by_test (c == carriage_return) refl (lean-open t)
  where
    by_test : (b : Bool) → (c == carriage_return) ≡ b → ends_in_return (without_returns t) ≡ false
        → ends_in_return (without_returns (c ∷ t)) ≡ false
    by_test true e ih = ap ends_in_return (lean-return c t e) ∙ ih
    by_test false e ih = ap ends_in_return (lean-other c t e) ∙ cons-open c (without_returns t) e ih

-- the line, the CR of its newline, if it has one, and the newline that is shown after the line
record Parts (mode : Mode) (u : Text) : Type 0 where
  ending : Text
  text : u ≡ line_end exact u ++ ending
  shown : Newline
  is : shown_text mode (ending ++ newline) ≡ newline_text shown
  closed : Closed (shown_text mode (line_end exact u)) shown

parts : (mode : Mode) (u : Text) → Parts mode u
parts mode u = by_test mode (ends_in_return u) refl
  where
    line-is : (b : Bool) → ends_in_return u ≡ b → line_end exact u ≡ (if b then but_last u else u)
    line-is b e = ap (λ x. if x then but_last u else u) e

    by_test : (m : Mode) (b : Bool) → ends_in_return u ≡ b → Parts m u
    by_test plain true e =
        record {
          ending = carriage_return ∷ [];
          text = sym (last-kept u e) ∙ ap (λ x. x ++ (carriage_return ∷ [])) (sym (line-is true e));
          shown = lf;
          is = refl;
          closed = lean-open (line_end exact u);
        }
    by_test plain false e =
        record {
          ending = [];
          text = sym (append-nil u) ∙ ap (λ x. x ++ []) (sym (line-is false e));
          shown = lf;
          is = refl;
          closed = lean-open (line_end exact u);
        }
    by_test exact true e =
        record {
          ending = carriage_return ∷ [];
          text = sym (last-kept u e) ∙ ap (λ x. x ++ (carriage_return ∷ [])) (sym (line-is true e));
          shown = crlf;
          is = refl;
          closed = tt;
        }
    by_test exact false e =
        record {
          ending = [];
          text = sym (append-nil u) ∙ ap (λ x. x ++ []) (sym (line-is false e));
          shown = lf;
          is = refl;
          closed = ap ends_in_return (line-is false e) ∙ e;
        }

front-feed : (s t : Text) → NoFeed (s ++ t) → NoFeed s
front-feed [] t h = refl
front-feed (c ∷ s) t h = ap (λ b. b && list_all not_feed s) (and_left (not_feed c) _ h) ∙ front-feed s t (and_right (not_feed c) _ h)

lean-feeds : (t : Text) → NoFeed t → NoFeed (without_returns t)
lean-feeds [] h = refl
lean-feeds (c ∷ t) h = by_test (c == carriage_return) refl (lean-feeds t (and_right (not_feed c) _ h))
  where
    by_test : (b : Bool) → (c == carriage_return) ≡ b → NoFeed (without_returns t) → NoFeed (without_returns (c ∷ t))
    by_test true e ih = subst NoFeed (sym (lean-return c t e)) ih
    by_test false e ih =
        subst NoFeed (sym (lean-other c t e)) (ap (λ b. b && list_all not_feed (without_returns t)) (and_left (not_feed c) _ h) ∙ ih)

shown-feeds : (mode : Mode) (t : Text) → NoFeed t → NoFeed (shown_text mode t)
shown-feeds plain t h = lean-feeds t h
shown-feeds exact t h = h

-- what is known of a suffix with a line feed
record Inside (mode : Mode) (t : Text) : Type 0 where
  newline_is : Newline
  ending : Text
  below : Text
  after : after_first_line t ≡ ending ++ (line_feed ∷ below)
  shown : shown_text mode (ending ++ newline) ≡ newline_text newline_is
  line : IsLineEnd (shown_text mode (first_line t))
  rest : IsWholeTrivia (shown_text mode below)

inside : (mode : Mode) (t : Text) → has_byte line_feed t ≡ true → IsWholeTrivia (shown_text mode t) → Inside mode t
inside mode t h whole =
    let (u, v, none, is) = find-feed t h in
    let p = parts mode u in
    let l = line_end exact u in
    let line : first_line t ≡ l = ap (λ x. line_end exact (before_first (λ c. c == line_feed) x)) is
    ∙ ap (line_end exact) (before-feed u v none) in
    let pieces = subst (AllByRecursion (λ x. IsWholeTrivia (shown_text mode x))) (ap lines is
    ∙ lines-run u v none) (lines-suit mode t whole) in
    let text : t ≡ l ++ (p.ending ++ (line_feed ∷ v)) =
    is ∙ ap (λ x. x ++ (line_feed ∷ v)) p.text ∙ append_assoc l p.ending (line_feed ∷ v) in
    let first : u ++ newline ≡ l ++ (p.ending ++ newline) = ap (λ x. x ++ newline) p.text ∙ append_assoc l p.ending newline in
    let shown : shown_text mode (u ++ newline) ≡ shown_text mode l ++ newline_text p.shown =
    ap (shown_text mode) first ∙ shown-append mode l (p.ending ++ newline) ∙ ap (λ x. shown_text mode l ++ x) p.is in
    let (ps, each, made) = pieces.0 in
    let no_feed : NoFeed l = front-feed l p.ending (subst NoFeed p.text none) in
    record {
      newline_is = p.shown;
      ending = p.ending;
      below = v;
      after = ap (λ x. drop (length x) t) line ∙ ap (drop (length l)) text ∙ drop-append_seam l (p.ending ++ (line_feed ∷ v));
      shown = p.is;
      line = subst (λ x. IsLineEnd (shown_text mode x)) (sym line)
          (whole-end ps each (shown_text mode l) p.shown (shown-feeds mode l no_feed) p.closed (sym shown ∙ made));
      rest = subst (λ x. IsWholeTrivia (shown_text mode x)) (joined-lines v) (joined-suits mode (lines v) pieces.1);
    }

-- ---- changes

-- a line, its newline and the lines below it
together : (mode : Mode) (l r v : Text) (n : Newline) → IsLineEnd (shown_text mode l) → shown_text mode (r ++ newline) ≡ newline_text n
    → IsWholeTrivia (shown_text mode v) → IsWholeTrivia (shown_text mode (l ++ (r ++ (line_feed ∷ v))))
together mode l r v n line is rest =
    let regrouped : l ++ (r ++ (line_feed ∷ v)) ≡ (l ++ (r ++ newline)) ++ v =
    ap (λ x. l ++ x) (sym (append_assoc r newline v)) ∙ sym (append_assoc l (r ++ newline) v) in
    subst (λ x. IsWholeTrivia (shown_text mode x)) (sym regrouped)
    (subst IsWholeTrivia (sym (shown-append mode (l ++ (r ++ newline)) v))
    (whole-append _ _
    (subst IsWholeTrivia (sym (shown-append mode l (r ++ newline) ∙ ap (λ x. shown_text mode l ++ x) is))
    (end-whole (shown_text mode l) n line))
    rest))

pub with_comment-inside : (mode : Mode) (body t : Text) → Each is_visible body → has_byte line_feed t ≡ true
    → IsWholeTrivia (shown_text mode t)
    → IsWholeTrivia (shown_text mode (with_first_comment body t))
with_comment-inside mode body t h feed whole =
    let i = inside mode t feed whole in
    let l = before_comment (first_line t) in
    subst (λ x. IsWholeTrivia (shown_text mode x))
    (append_assoc l (comment body) (i.ending ++ (line_feed ∷ i.below)) ∙ ap (λ x. l ++ (comment body ++ x)) (sym i.after))
    (together mode (l ++ comment body) i.ending i.below i.newline_is (put-line mode body (first_line t) h i.line) i.shown i.rest)

pub without_comment-inside : (mode : Mode) (t : Text) → has_byte line_feed t ≡ true → IsWholeTrivia (shown_text mode t)
    → IsWholeTrivia (shown_text mode (without_first_comment t))
without_comment-inside mode t feed whole = by_test (is_some (first_comment t))
  where
    by_test : (b : Bool) → IsWholeTrivia (shown_text mode (if b then after_first_line t else t))
    by_test true =
        let i = inside mode t feed whole in
        subst (λ x. IsWholeTrivia (shown_text mode x)) (sym i.after)
        (together mode [] i.ending i.below i.newline_is (subst IsLineEnd (sym (shown-none mode)) empty-end) i.shown i.rest)
    by_test false = whole
