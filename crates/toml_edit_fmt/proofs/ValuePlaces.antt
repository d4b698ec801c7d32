-- The places of comments in values.
use Rattle.std.proofs.Common.{◌≡◌, refl, sym, subst, ℕ, suc, ◌+◌, arith, Bool, true, false, List, [], ◌++◌, Option, Some, None}
use Rattle.std.specs.Prelude.{◌||◌, if◌then◌else◌, codes}
use Rattle.toml_edit_model.specs.Paths.{Path, to_element}
use Rattle.toml_edit_model.specs.Print.{one_space}
use Rattle.toml_edit_model.specs.Syntax.{Frame, Value, scalar, array, inline_table, Elements, no_elements, element, Pairs, no_pairs, pair, has_elements, has_pairs}
use Rattle.toml_edit_model.specs.Text.{Text, one}
use Rattle.toml_edit_fmt_laws.specs.Rules.{Rules, Arrays, arrays_stay, kept, collapsed}
use Rattle.toml_edit_fmt_laws.specs.Formatted.{Layout, untouched, on_one_line, line_by_line, Inside, after_part, array_layout, array_layout_as, inline_layout, inside, laid_comma, inner_depth, inner_room, last_after, last_trailing, elements_count, pairs_count, rows_if, laid_value, laid_elements, laid_pairs}
use Rattle.toml_edit_fmt_laws.specs.Aligned as pieces
use Rattle.toml_edit_fmt_laws.specs.Aligned.{Piece, after_pieces, lays_arrays, newlines, value_pieces, elements_pieces, pairs_pieces}
use Rattle.toml_edit_fmt.specs.PageView.{letters}
use Rattle.toml_edit_fmt.specs.ValueBits.{Listed, head_text, value_bits, elements_bits, pairs_bits}
use Rattle.toml_edit_fmt.proofs.GapPlaces.{IsDeep, Between, Ready, latest-more}
use Rattle.toml_edit_fmt.proofs.ListPlaces.{IsFar, Kept, is_laid, roof, after-next, before-first, before-next, close-part, empty-close, member}
use Rattle.toml_edit_fmt.proofs.SpotLaws.{Spot, Pads, Part, both, word}

-- ---- which layouts there are

open-laid : (a b : Bool) → true ≡ is_laid (rows_if a (if b then line_by_line else on_one_line))
open-laid true true = refl
open-laid true false = refl
open-laid false true = refl
open-laid false false = refl

array-laid : (r : Rules) (k : Arrays) (d : ℕ) (room : Option ℕ) (es : Elements) (comma : Bool) (t : Text)
    → lays_arrays k ≡ is_laid (array_layout_as k r d room es comma t)
array-laid r arrays_stay d room es comma t = refl
array-laid r kept d room es comma t = open-laid _ _
array-laid r collapsed d room es comma t = open-laid _ _

inline-laid : (b a : Bool) → b ≡ is_laid (if b then if a then line_by_line else on_one_line else untouched)
inline-laid true true = refl
inline-laid true false = refl
inline-laid false a = refl

-- ---- the last member

abbrev last_from : Text → Elements → Text
last_from s no_elements = s
last_from s (element a v es) = last_from a.after es

abbrev trailing_from : Text → Pairs → Text
trailing_from s no_pairs = s
trailing_from s (pair f v ps) = trailing_from f.trailing ps

last-of : (a : _) (v : Value) (es : Elements) → last_after (element a v es) ≡ last_from a.after es
last-of a v no_elements = refl
last-of a v (element b w es) = last-of b w es

trailing-of : (f : _) (v : Value) (ps : Pairs) → last_trailing (pair f v ps) ≡ trailing_from f.trailing ps
trailing-of f v no_pairs = refl
trailing-of f v (pair g w ps) = trailing-of g w ps

module _ (r : Rules) (n : ℕ) where
  abbrev edge : Bool → Text
  edge space = if space then one_space else []

  abbrev listed : Layout → ℕ → Bool → Listed
  listed l d space = record { layout = l; depth = d; edge = edge space; has_any = true }

  -- the list, where the last member has this number and this after it
  abbrev within : Layout → Path → ℕ → Bool → Bool → Text → Text → ℕ → Pads → Inside
  within l p d space comma t last end f = inside r l p d true space (f n (to_element p end)) comma last t

  abbrev more_elements : Layout → Path → ℕ → Bool → Bool → Text → ℕ → Text → Elements → Text → ℕ → Pads → List Piece
  more_elements l p d space comma t i s es last end f =
      let x = within l p d space comma t last end f in
      let laid = laid_elements r (f n) x (suc i) (f n (to_element p i)) es in
      after_pieces r n (lays_arrays r.arrays) p i (has_elements laid) x.comma
      (after_part r l (comma || has_elements es) d s ++ (if has_elements es then [] else x.last))
      ++ elements_pieces r n p (suc i) x.comma x.close laid

  abbrev more_pairs : Layout → Path → ℕ → Bool → Bool → Text → ℕ → Text → Pairs → Text → ℕ → Pads → List Piece
  more_pairs l p d space comma t i s ps last end f =
      let x = within l p d space comma t last end f in
      let laid = laid_pairs r (f n) x (suc i) (f n (to_element p i)) ps in
      after_pieces r n r.inline_tables p i (has_pairs laid) x.comma
      (after_part r l (comma || has_pairs ps) d s ++ (if has_pairs ps then [] else x.last))
      ++ pairs_pieces r n p (suc i) x.comma x.close laid

  opening : (t : Text) (p : Path) (W R : Spot → Type 0)
      → Part r.comments (Ready W R n p 0) (Between W R n p 0) (one (letters t)) (λ f. one (pieces.words t))
  opening t p W R =
      word r.comments (Ready W R n p 0) (Between W R n p 0) t
      (λ at h. record { kept = h.kept; away = h.before; latest = latest-more R at.seen at.count (newlines t) h.latest })

  head : (f : Frame) (l : Layout) (p : Path) (d : ℕ) (W R : Spot → Type 0) (i : ℕ)
      → Part r.comments (Ready W (roof l R p d) n p i) (Ready W (roof l R p d) n p i) (one (letters (head_text r f))) (λ g. one (pieces.words (head_text r f)))
  head f l p d W R i =
      word r.comments (Ready W (roof l R p d) n p i) (Ready W (roof l R p d) n p i) (head_text r f)
      (λ at h. record { kept = h.kept; before = h.before; latest = latest-more (roof l R p d) at.seen at.count (newlines (head_text r f)) h.latest })

  mutual
    pub value-part : (v : Value) (p : Path) (d : ℕ) (room : Option ℕ) (W R : Spot → Type 0) → IsDeep W n p d → IsFar R p d
        → Part r.comments (Ready W R n p 0) (Kept W R) (value_bits r d room v) (λ f. value_pieces r n p (laid_value r (f n) p d room v))
    value-part (scalar s t) p d room W R deep far =
        word r.comments (Ready W R n p 0) (Kept W R) t
        (λ at h. record { kept = h.kept; latest = latest-more R at.seen at.count _ h.latest })
    value-part (array no_elements comma t) p d room W R deep far =
        both r.comments _ (Between W R n p 0) _ _ _ _ _ (opening (codes "[") p W R)
        (empty-close r n p d W R deep far (array_layout r d room no_elements comma t) (lays_arrays r.arrays) comma t (codes "]"))
    value-part (array (element a v es) comma t) p d room W R deep far =
        let l = array_layout r d room (element a v es) comma t in
        let laid = array-laid r r.arrays d room (element a v es) comma t in
        both r.comments _ (Between W R n p 0) _ _ _ _ _ (opening (codes "[") p W R)
        (both r.comments _ (Ready W (roof l R p d) n p 0) _ _ _ _ _
        (before-first r n p d W R deep far l (lays_arrays r.arrays) (edge r.bracket_space) true a.before)
        (both r.comments _ (Between W (roof l R p d) n p 1) _ _ _ _ _
        (member r n p d W R deep far l 0 _ _
        (λ V S deep far. value-part v (to_element p 0) (inner_depth l d) (inner_room r l d) V S deep far))
        (elements-more es l laid p d W R deep far 0 a.after t comma r.bracket_space (last_after (element a v es)) (elements_count es)
        (last-of a v es) (omega arith))))
    value-part (inline_table no_pairs comma t) p d room W R deep far =
        both r.comments _ (Between W R n p 0) _ _ _ _ _ (opening (codes "{") p W R)
        (empty-close r n p d W R deep far (inline_layout r no_pairs t) r.inline_tables comma t (codes "}"))
    value-part (inline_table (pair f v ps) comma t) p d room W R deep far =
        let l = inline_layout r (pair f v ps) t in
        let laid = inline-laid r.inline_tables _ in
        both r.comments _ (Between W R n p 0) _ _ _ _ _ (opening (codes "{") p W R)
        (both r.comments _ (Ready W (roof l R p d) n p 0) _ _ _ _ _
        (before-first r n p d W R deep far l r.inline_tables (edge r.brace_space) true f.leading)
        (both r.comments _ (Ready W (roof l R p d) n p 0) _ _ _ _ _ (head f l p d W R 0)
        (both r.comments _ (Between W (roof l R p d) n p 1) _ _ _ _ _
        (member r n p d W R deep far l 0 _ _
        (λ V S deep far. value-part v (to_element p 0) (inner_depth l d) None V S deep far))
        (pairs-more ps l laid p d W R deep far 0 f.trailing t comma r.brace_space (last_trailing (pair f v ps)) (pairs_count ps)
        (trailing-of f v ps) (omega arith)))))

    elements-more : (es : Elements) (l : Layout) → lays_arrays r.arrays ≡ is_laid l → (p : Path) (d : ℕ) (W R : Spot → Type 0)
        → IsDeep W n p d → IsFar R p d → (i : ℕ) (s t : Text) (comma space : Bool) (last : Text) (end : ℕ)
        → last ≡ last_from s es → end ≡ i + elements_count es
        → Part r.comments (Between W (roof l R p d) n p (suc i)) (Kept W R) (elements_bits r (listed l d space) (Some s) comma t es)
        (more_elements l p d space comma t i s es last end)
    elements-more no_elements l laid p d W R deep far i s t comma space last end is count =
        let here : end ≡ i = omega (arith, count) in
        subst (λ u. Part r.comments (Between W (roof l R p d) n p (suc i)) (Kept W R) (elements_bits r (listed l d space) (Some s) comma t no_elements)
        (more_elements l p d space comma t i s no_elements u end)) (sym is)
        (subst (λ m. Part r.comments (Between W (roof l R p d) n p (suc i)) (Kept W R) (elements_bits r (listed l d space) (Some s) comma t no_elements)
        (more_elements l p d space comma t i s no_elements s m)) (sym here)
        (close-part r n p d W R deep far l (lays_arrays r.arrays) laid i s t comma space (codes "]")))
    elements-more (element b w es) l laid p d W R deep far i s t comma space last end is count =
        both r.comments _ (Between W (roof l R p d) n p (suc i)) _ _ _ _ _
        (after-next r n p d W R deep far l (lays_arrays r.arrays) i (edge space) true comma (laid_comma r l true comma last) s)
        (both r.comments _ (Ready W (roof l R p d) n p (suc i)) _ _ _ _ _
        (before-next r n p d W R deep far l (lays_arrays r.arrays) laid i (edge space) true b.before)
        (both r.comments _ (Between W (roof l R p d) n p (suc (suc i))) _ _ _ _ _
        (member r n p d W R deep far l (suc i) _ _
        (λ V S deep far. value-part w (to_element p (suc i)) (inner_depth l d) (inner_room r l d) V S deep far))
        (elements-more es l laid p d W R deep far (suc i) b.after t comma space last end is (omega (arith, count)))))

    pairs-more : (ps : Pairs) (l : Layout) → r.inline_tables ≡ is_laid l → (p : Path) (d : ℕ) (W R : Spot → Type 0)
        → IsDeep W n p d → IsFar R p d → (i : ℕ) (s t : Text) (comma space : Bool) (last : Text) (end : ℕ)
        → last ≡ trailing_from s ps → end ≡ i + pairs_count ps
        → Part r.comments (Between W (roof l R p d) n p (suc i)) (Kept W R) (pairs_bits r (listed l d space) (Some s) comma t ps)
        (more_pairs l p d space comma t i s ps last end)
    pairs-more no_pairs l laid p d W R deep far i s t comma space last end is count =
        let here : end ≡ i = omega (arith, count) in
        subst (λ u. Part r.comments (Between W (roof l R p d) n p (suc i)) (Kept W R) (pairs_bits r (listed l d space) (Some s) comma t no_pairs)
        (more_pairs l p d space comma t i s no_pairs u end)) (sym is)
        (subst (λ m. Part r.comments (Between W (roof l R p d) n p (suc i)) (Kept W R) (pairs_bits r (listed l d space) (Some s) comma t no_pairs)
        (more_pairs l p d space comma t i s no_pairs s m)) (sym here)
        (close-part r n p d W R deep far l r.inline_tables laid i s t comma space (codes "}")))
    pairs-more (pair g w ps) l laid p d W R deep far i s t comma space last end is count =
        both r.comments _ (Between W (roof l R p d) n p (suc i)) _ _ _ _ _
        (after-next r n p d W R deep far l r.inline_tables i (edge space) true comma (laid_comma r l true comma last) s)
        (both r.comments _ (Ready W (roof l R p d) n p (suc i)) _ _ _ _ _
        (before-next r n p d W R deep far l r.inline_tables laid i (edge space) true g.leading)
        (both r.comments _ (Ready W (roof l R p d) n p (suc i)) _ _ _ _ _ (head g l p d W R (suc i))
        (both r.comments _ (Between W (roof l R p d) n p (suc (suc i))) _ _ _ _ _
        (member r n p d W R deep far l (suc i) _ _
        (λ V S deep far. value-part w (to_element p (suc i)) (inner_depth l d) None V S deep far))
        (pairs-more ps l laid p d W R deep far (suc i) g.trailing t comma space last end is (omega (arith, count))))))
