-- The tests of lines and values tell what they say.
use Rattle.std.proofs.Common.{◌≡◌, refl, sym, ◌∙◌, ap, subst, ℕ, suc, ◌-◌, ◌<◌, ◌≤◌, Bool, true, false, List, [], ◌∷◌, ◌++◌, length, Option}
use Rattle.std.proofs.Common.{Some, None, arith}
use Rattle.std.specs.Prelude.{◌&&◌, ◌||◌, ◌==◌, ◌↔◌, nat_lt, if◌then◌else◌, MatchBool, Decides}
use Rattle.std.specs.List.{AllByRecursion}
use Rattle.std.proofs.lemmas.Bool.{eq-eqb, ne_eqb, or_left}
use Rattle.std.proofs.lemmas.Bool.Decides.{Decides-and, Decides-at, Decides-like, Decides-ltb}
use Rattle.toml_edit_model.specs.Mode.{Mode}
use Rattle.toml_edit_model.specs.Text.{Text, one}
use Rattle.toml_edit_model.specs.Trivia.{IsWhiteSpace, IsWholeTrivia}
use Rattle.toml_edit_model.specs.Syntax.{IsSpacedSegment, nesting_limit}
use Rattle.toml_edit_model.specs.Tree.{Raw, owned, span, Decor, Key, Node, node_decor, shown_side, shown_prefix, shown_suffix}
use Rattle.toml_edit_model.specs.Print.{one_space, dot_prefix, dot_suffix, segments, segments_after, last_leaf}
use Rattle.toml_edit_model.specs.Fits.{LineSuits, EndsLine}
use Rattle.toml_edit_laws.proofs.common.Each.{all-append, all-front, all-back}
use Rattle.toml_edit_laws.proofs.print_by_visits.KeyTexts.{last_leaf-end}
use Rattle.toml_edit_fits.specs.TriviaTests.{is_whole, is_white, ends_line}
use Rattle.toml_edit_fits.specs.declared.route.Route.{Route}
use Rattle.toml_edit_fits.specs.FitTests.{no_keys, key_fits, then_key, may_follow, pair_fits}
use Rattle.toml_edit_fits.proofs.TriviaLaws.{whole-decides, end-decides}

pub white-decides : (t : Text) → Decides (is_white t) (IsWhiteSpace t)
white-decides t = (λ h. h, λ h. h)

pub length-one : (ks : List Key) (k : Key) → length (ks ++ one k) ≡ suc (length ks)
length-one [] k = refl
length-one (j ∷ ks) k = ap suc (length-one ks k)

module _ (mode : Mode) where
  -- ---- shown texts

  pub whole-side : (r : Option Raw) → Decides (is_whole (shown_side mode [] r)) (IsWholeTrivia (shown_side mode [] r))
  whole-side r = whole-decides (shown_side mode [] r)

  -- a default that fits makes no difference
  pub white-default : (r : Option Raw) → is_white (shown_side mode one_space r) ≡ is_white (shown_side mode [] r)
  white-default None = refl
  white-default (Some (owned t)) = refl
  white-default (Some (span i j)) = refl

  -- ---- keys

  -- the keys, with white space alone at their dots: before the first there is none
  abbrev pub AreSpaced : List Key → Type 0
  AreSpaced ks = AllByRecursion IsSpacedSegment (segments mode ks)

  abbrev IsSpacedKey : Key → Type 0
  IsSpacedKey k = IsWhiteSpace (dot_prefix mode k) × IsWhiteSpace (dot_suffix mode k)

  -- keys that another follows
  abbrev pub OnRoute : List Key → Type 0
  OnRoute [] = Unit {0}
  OnRoute (k ∷ ks) = IsWhiteSpace (dot_suffix mode k) × AllByRecursion IsSpacedKey ks

  -- a key after them that ends the path
  abbrev pub EndsRoute : List Key → Key → Type 0
  EndsRoute [] k = Unit {0}
  EndsRoute (j ∷ ks) k = IsWhiteSpace (dot_prefix mode k)

  after-spaced : (ks : List Key) (k : Key) → AllByRecursion IsSpacedSegment (segments_after mode (ks ++ one k))
      ↔ (AllByRecursion IsSpacedKey ks × IsWhiteSpace (dot_prefix mode k))
  after-spaced [] k = (λ h. (tt, h.0.0), λ h. ((h.1, refl), tt))
  after-spaced (j ∷ []) k = (λ h. ((h.0, tt), h.1.0.0), λ h. (h.0.0, ((h.1, refl), tt)))
  after-spaced (j ∷ i ∷ ks) k =
      let more = after-spaced (i ∷ ks) k in
      (λ h. ((h.0, (more.0 h.1).0), (more.0 h.1).1), λ h. (h.0.0, more.1 (h.0.1, h.1)))

  spaced : (ks : List Key) (k : Key) → AreSpaced (ks ++ one k) ↔ (OnRoute ks × EndsRoute ks k)
  spaced [] k = (λ h. (tt, tt), λ h. ((refl, refl), tt))
  spaced (j ∷ []) k = (λ h. ((h.0.1, tt), h.1.0.0), λ h. ((refl, h.0.0), ((h.1, refl), tt)))
  spaced (j ∷ i ∷ ks) k =
      let more = after-spaced (i ∷ ks) k in
      (λ h. ((h.0.1, (more.0 h.1).0), (more.0 h.1).1), λ h. ((refl, h.0.0), more.1 (h.0.1, h.1)))

  route-more : (ks : List Key) (k : Key) → OnRoute (ks ++ one k) ↔ ((OnRoute ks × EndsRoute ks k) × IsWhiteSpace (dot_suffix mode k))
  route-more [] k = (λ h. ((tt, tt), h.0), λ h. (h.1, tt))
  route-more (j ∷ ks) k = (
    λ h. let last = (all-back IsSpacedKey ks (one k) h.1).0 in (((h.0, all-front IsSpacedKey ks (one k) h.1), last.0), last.1),
    λ h. (h.0.0.0, all-append IsSpacedKey ks (one k) h.0.0.1 ((h.0.1, h.1), tt)),
  )

  -- the route is that of the keys
  pub record IsRouteOf (r : Route) (ks : List Key) : Type 0 where
    pub room : r.room ≡ nesting_limit - length ks
    pub fits : Decides r.fits ((length ks ≤ nesting_limit) × OnRoute ks)

  pub no-keys : IsRouteOf no_keys []
  no-keys = record { room = refl; fits = (λ h. (omega arith, tt), λ h. refl) }

  -- the path is short, with white space alone at its dots
  abbrev pub IsFitPath : List Key → Type 0
  IsFitPath ks = (length ks ≤ nesting_limit) × AreSpaced ks

  ends-decides : (r : Route) (ks : List Key) (k : Key) → r.room ≡ nesting_limit - length ks
      → Decides (r.room == nesting_limit || is_white (dot_prefix mode k)) (EndsRoute ks k)
  ends-decides r [] k e = (λ h. tt, λ h. or_left (r.room == nesting_limit) (is_white (dot_prefix mode k)) (eq-eqb r.room nesting_limit e))
  ends-decides r (j ∷ ks) k e =
      let other : (r.room == nesting_limit) ≡ false = ne_eqb r.room nesting_limit (λ g. absurd (omega (arith, e, g))) in
      Decides-at (r.room == nesting_limit || is_white (dot_prefix mode k)) (is_white (dot_prefix mode k)) (ap (λ b. b
      || is_white (dot_prefix mode k)) other) (white-decides (dot_prefix mode k))

  pub key-decides : (r : Route) (ks : List Key) (k : Key) → IsRouteOf r ks → Decides (key_fits mode r k) (IsFitPath (ks ++ one k))
  key-decides r ks k is =
      let both = Decides-and (r.fits && nat_lt 0 r.room) (r.room == nesting_limit || is_white (dot_prefix mode k))
      (Decides-and r.fits (nat_lt 0 r.room) is.fits (Decides-ltb 0 r.room)) (ends-decides r ks k is.room) in
      let path = spaced ks k in
      let len = length-one ks k in
      Decides-like (key_fits mode r k)
      (λ h. let small : 0 < r.room = h.0.1 in (omega (arith, len, is.room, small), path.1 (h.0.0.1, h.1)))
      (λ h. let parts = path.0 h.1 in let short : length (ks ++ one k) ≤ nesting_limit = h.0 in
      (((omega (arith, len, short), parts.0), omega (arith, len, short, is.room)), parts.1)) both

  pub then-route : (r : Route) (ks : List Key) (k : Key) → IsRouteOf r ks → IsRouteOf (then_key mode r k) (ks ++ one k)
  then-route r ks k is =
      let len = length-one ks k in
      let path = spaced ks k in
      let more = route-more ks k in
      record {
        room = (let same : r.room - 1 ≡ nesting_limit - length (ks ++ one k) = omega (arith, len, is.room) in same);
        fits = Decides-like (key_fits mode r k && is_white (dot_suffix mode k))
            (λ h. (h.0.0, more.1 (path.0 h.0.1, h.1))) (λ h. let parts = more.0 h.1 in ((h.0, path.1 parts.0), parts.1))
            (Decides-and (key_fits mode r k) (is_white (dot_suffix mode k)) (key-decides r ks k is) (white-decides (dot_suffix mode k)));
      }

  -- ---- what stands around a line or a pair

  abbrev pub Follows : ℕ → Text → Type 0
  Follows room t = MatchBool (room == nesting_limit) (EndsLine mode t) (IsWholeTrivia t)

  follow-decides : (room : ℕ) (d : Decor) → Decides (may_follow mode room d) (Follows room (shown_suffix mode [] d))
  follow-decides room d = by_room (room == nesting_limit)
    where
      by_room : (b : Bool) → Decides (if b then ends_line mode (shown_suffix mode [] d) else is_whole (shown_suffix mode [] d))
          (MatchBool b (EndsLine mode (shown_suffix mode [] d)) (IsWholeTrivia (shown_suffix mode [] d)))
      by_room true = end-decides mode (shown_suffix mode [] d)
      by_room false = whole-side d.suffix

  white-at : (default : Text) (r : Option Raw) → is_white (shown_side mode default r) ≡ is_white (shown_side mode [] r)
      → Decides (is_white (shown_side mode [] r)) (IsWhiteSpace (shown_side mode default r))
  white-at default r e = (λ h. e ∙ h, λ h. sym e ∙ h)

  pub pair-decides : (room : ℕ) (r : Route) (ks : List Key) (k : Key) (n : Node) → IsRouteOf r ks
      → Decides (pair_fits mode room r k (node_decor n))
      ((length (ks ++ one k) ≤ nesting_limit) × LineSuits mode (Follows room) (ks ++ one k) n)
  pair-decides room r ks k n is =
      let d = node_decor n in
      let last : last_leaf (ks ++ one k) ≡ k.leaf = last_leaf-end ks k in
      Decides-like (pair_fits mode room r k d)
      (λ h. (
        h.0.0,
        record {
          leading = subst (λ (o : Decor). IsWholeTrivia (shown_prefix mode [] o)) (sym last) h.1.0.0;
          segments = h.0.1;
          before_equals = subst (λ (o : Decor). IsWhiteSpace (shown_suffix mode one_space o)) (sym last) h.1.0.1;
          after_equals = h.1.1.0;
          trailing = h.1.1.1;
        },
      ))
      (λ h. let s = h.1 in (
        (h.0, s.segments),
        (
          (
            subst (λ (o : Decor). IsWholeTrivia (shown_prefix mode [] o)) last s.leading,
            subst (λ (o : Decor). IsWhiteSpace (shown_suffix mode one_space o)) last s.before_equals,
          ),
          (s.after_equals, s.trailing),
        ),
      ))
      (Decides-and (key_fits mode r k) _ (key-decides r ks k is)
      (Decides-and (is_whole (shown_prefix mode [] k.leaf) && is_white (shown_suffix mode [] k.leaf)) (is_white (shown_prefix mode [] d)
      && may_follow mode room d)
      (Decides-and (is_whole (shown_prefix mode [] k.leaf)) (is_white (shown_suffix mode [] k.leaf)) (whole-side k.leaf.prefix)
      (white-at one_space k.leaf.suffix (white-default k.leaf.suffix)))
      (Decides-and (is_white (shown_prefix mode [] d)) (may_follow mode room d) (white-at one_space d.prefix (white-default d.prefix))
      (follow-decides room d))))
