-- A block of bytes as a row of places, and the two calls that make a `Slots` of it and take one apart. Assumes `Logic`.
--     byte, Row, places      the element type, a row of bytes, and what it owns of the block
--     block, block_size, block_align      the type that a block of n bytes is allocated for, and its layout
--     to_places, to_block      room for n bytes is a row of empty places, and any row is room
--     From, from_goes, from_gives      `from_raw_parts`: its contract, what it is handed, and what a caller has of it.       Into,
-- into_goes, into_gives      the same of `into_raw_parts`
--     mark, mark_made, mark_had      the deed's one data field, which takes no bytes
use mathlib.Core.Path.{◌≡◌, refl, sym, subst, ap, ◌∙◌}
use mathlib.Core.Bool.{Bool, false}
use Prim.Native.Nat.{ℕ, ◌*◌, ◌<◌, ◌^◌}
use native.Mathlib.Omega.{arith}
use mathlib.Core.List.{List, [], ◌∷◌, ◌++◌}
use lib.ListN.{length, replicate, length-replicate}
use seplogic.Ra.Ura.{Ura}
use mir.Syntax.{Ty, Args, a_type, ty_int, ty_array, w8, w64, dcons, dnil}
use mir.Raw.{raw as bare}
use mir.Val.{Val, vint, vptr, vstruct, vcons, vnil, of_list}
use base.Logic.{SProp, ent, sep, ex, guard, emp, id⊢}
use base.Fml.{Lft, Share, Fml, ftrue, froom, fsep, flft}
use prog.Memory.{Memory, size, align, capped}
use prog.Routine.{Routine}
use types.Logic.{Logic, sem}
use contract.BorrowLft.{⊑_static, ◌⊑◌}
use contract.Monad.{Fun, fact, fact_i}
use types.Kit.{Goal, Seq, Item, ‵, raw, ◌⊛◌, some, later, ◌$◌, ◌∵◌, !, qed, by, move, keep, drop, use0, use1, split, join, pick, rewrite}
use types.Kit.{fsplit, fsplit3, fjoin, fjoin3, fpick, feq_l, feq_i, flt_i, check, show, await, updating, now, done}
use denote.RattleType.{RattleType}
use denote.Builtin.{u8, usize}
use denote.Param.{param, bounded}
use denote.Param.Laws.{of_field}
use denote.Param.Shared.{copy_shared}
use denote.RawPtr.{Ptr, RawPtr, block_ptr, in_block}
use denote.Shadow.{makes_shadow}
use denote.Steps.{only, heard, nothing}
use denote.Struct.Field.{u8-field}
use denote.Struct.Laws.{u8-laws, u8-copy}
use denote.Struct.Owning.{shape}
use denote.Struct.Struct.{Struct}
use denote.Struct.Tuple.{Tuple}
use denote.Triple.Spec.{triple_of}
use denote.Triple.Statement.{Contract}
use Rattle.core.proofs.alloc.Calls.{Al}
use Rattle.core.proofs.mem.Param.{El, R}
use Rattle.core.proofs.slots.Leases as leases
use Rattle.core.proofs.slots.Opens.{words_val, row_val, row_had, row_made}
use Rattle.core.proofs.slots.Places.{of_room, to_room}
use Rattle.core.specs.Mem.Slots.Ownership.{slots, owned}
use Rattle.core.specs.Mem.Slots.{slots_items, slots_filled, slots_ptr, slots_len}
use Rattle.core.specs.contracts.slots.Slots as slots-type
use Rattle.core.specs.contracts.slots.Slots.from_raw_parts as FR
use Rattle.core.specs.contracts.slots.Slots.into_raw_parts as IR
use Rattle.toml_edit_text.specs.contracts.deed.Deed as deed

abbrev pub byte : El
byte = record { row = u8; laws = of_field u8-field u8-laws refl (copy_shared u8-field u8-copy) }

abbrev pub Row : RattleType
Row = slots-type.the_row u8

abbrev pub places : ℕ → ℕ → List ℕ → List Bool → Fml
places b o xs fs = slots (R byte) (block_ptr b o) xs fs

abbrev pub zeros : ℕ → List ℕ
zeros n = replicate n 0

abbrev pub empty : ℕ → List Bool
empty n = replicate (length (zeros n)) false

abbrev pub block : ℕ → Ty
block n = bare (ty_array (ty_int w8) n)

pub block_size : (n : ℕ) → n < 2 ^ 64 → capped (size (block n)) ≡ n
block_size n fits = let one : n * 1 < 2 ^ 64 = omega arith in let same : n * 1 ≡ n = omega arith in leases.block_size byte n one ∙ same

pub block_align : (n : ℕ) → capped (align (block n)) ≡ 1
block_align n = leases.block_align byte n

-- a row of the n bytes from o on in the block b
abbrev pub Made : ℕ → ℕ → ℕ → Row.Denot → Type 0
Made b o n r = (slots_ptr r ≡ block_ptr b o) × (slots_len r ≡ n)

module _ (Z : Al) where
  abbrev pub args : Args
  args = bounded (a_type ∷ []) (Z.row, tt) (dcons Z.d (dcons Z.drops dnil))

  abbrev pub P : RattleType
  P = param 0 Z.row

  abbrev pub Right : RattleType
  Right = deed.the_row P Z.g

  abbrev pub Mark : RattleType
  Mark = Struct (shape (deed.the_type P Z.g))

abbrev pub mark : Val
mark = vstruct (vcons (vstruct vnil) vnil)

pub mark_made : (Z : Al) {M : Type 1} {𝓤 : Ura M} (𝓛 : Logic 𝓤) → ent 𝓤 (emp 𝓤) (sem 𝓛 ((Mark Z).own_val (tt, tt) (mark ∷ [])))
mark_made Z 𝓛 = makes_shadow 𝓛 ((Mark Z).own_val (tt, tt) (mark ∷ [])) (λ vss. (tt, ((λ uss. (tt, tt)), tt))) (
  (vstruct vnil ∷ [], tt),
  (refl, ((tt, (refl, tt)), tt)),
)

module _ {M : Type 1} {𝓤 : Ura M} {𝓛 : Logic 𝓤} {K : Type 0} {Γ : List (Item 𝓤)} {G : Goal 𝓤 𝓛.H} where
  pub mark_had : K → (Z : Al) (vs : List Val) → (vs ≡ mark ∷ [] → Seq K 𝓛 Γ G) → Seq K 𝓛 (‵ ((Mark Z).own_val (tt, tt) vs) ∷ Γ) G
  mark_had t Z vs k = fpick t (λ vss. fsplit t $ feq_l t (λ all. fsplit t $ fpick t (λ none. fsplit t $ feq_l t (λ e. drop t $ drop t $
      k (subst (λ (ws : List Val). vs ≡ vstruct (of_list (ws ++ [])) ∷ []) e all)))))

module _ {M : Type 1} {𝓤 : Ura M} (𝓛 : Logic 𝓤) where
  open 𝓛 use {H}

  pub to_places : (n b o : ℕ) → ent 𝓤 (H.room (block n) b o) (sem 𝓛 (places b o (zeros n) (empty n)))
  to_places n b o = qed 𝓛 (‵ (froom (block n) b o) ∷ []) ∵ use1 𝓛 (‵ (froom (ty_array (ty_int w8) n) b o))
      (𝓛.laws.raw-room (ty_array (ty_int w8) n) b o) $
      rewrite ! 0 (λ (k : ℕ). ‵ (froom (ty_array (ty_int w8) k) b o)) (sym (length-replicate n 0)) refl $
      by ! (of_room byte 𝓛 b (zeros n) o)

  pub to_block : (n b o : ℕ) (xs : List ℕ) (fs : List Bool) → n ≡ length xs → n ≡ length fs
      → ent 𝓤 (sem 𝓛 (places b o xs fs)) (H.room (block n) b o)
  to_block n b o xs fs items filled = qed 𝓛 (‵ (places b o xs fs) ∷ []) ∵
      use1 𝓛 (‵ (froom (ty_array (ty_int w8) (length xs)) b o)) (to_room byte 𝓛 b xs fs o (sym filled ∙ items)) $
      rewrite ! 0 (λ (k : ℕ). ‵ (froom (ty_array (ty_int w8) k) b o)) (sym items) refl $ by ! (𝓛.laws.room-raw (ty_array (ty_int w8) n) b o)

module _ {M : Type 1} {𝓤 : Ura M} (𝓛 : Logic 𝓤) (at_mem : Memory → SProp 𝓤) (run : Routine → Fun 𝓤) where
  open 𝓛 use {H, A}

  abbrev pub From : Contract 𝓤
  From = triple_of 𝓛 (FR.signature u8) (FR.spec u8 𝓛 at_mem run)

  abbrev pub Into : Contract 𝓤
  Into = triple_of 𝓛 (IR.signature u8) (IR.spec u8 𝓛 at_mem run)

  within : (κ : Lft) → ent 𝓤 (emp 𝓤) (fact 𝓤 (κ ⊑ []))
  within κ = fact_i 𝓤 (κ ⊑ []) (emp 𝓤) (⊑_static κ)

  module _ (κ : Lft) (q : Share) (b o n : ℕ) where
    abbrev pub at_from : From.Ghost
    at_from = (((κ, tt), (q, tt), tt, (block_ptr b o, (n, tt)), (vptr b o ∷ [], (vint w64 n ∷ [], tt))), (zeros n, empty n))

    pub from_goes : n < 2 ^ 63 → ent 𝓤 (sep 𝓤 (sem 𝓛 (places b o (zeros n) (empty n))) (A.lft κ q)) (From.pre at_from)
    from_goes small =
        let items : n ≡ length (zeros n) = sym (length-replicate n 0) in let filled : n ≡ length (empty n) = items
        ∙ sym (length-replicate (length (zeros n)) false) in
        let Long : Type 0 = (n ≡ length (zeros n)) × (n ≡ length (empty n)) in let one : n * 1 < 2 ^ 63 = omega arith in
        let word : n < 2 ^ 64 = omega arith in
        qed 𝓛 (‵ (places b o (zeros n) (empty n)) ∷ ‵ (flft κ q) ∷ []) ∵ flt_i ! (n * 1) (2 ^ 63) one $ fjoin ! $
        use0 𝓛 (raw (fact 𝓤 Long)) (fact_i 𝓤 Long (emp 𝓤) (items, filled)) $ join ! $ use0 𝓛 (raw (fact 𝓤 (κ ⊑ []))) (within κ) $ join ! $
        nothing ! $ flt_i ! n (2 ^ 64) word $ feq_i ! (List Val) (vint w64 n ∷ []) (vint w64 n ∷ []) refl $ fjoin ! $
        feq_i ! (List Val) (vptr b o ∷ []) (vptr b o ∷ []) refl $ fjoin3 ! $
        nothing ! $ move ! (3 ∷ 0 ∷ []) $ join ! $ join ! $ done !

    pub from_gives : (v : Val) → ent 𝓤 (From.post at_from v)
        (H.⇛ (ex 𝓤 (λ (r : Row.Denot). guard 𝓤 ((v ≡ row_val b o n)
        × Made b o n r) (sep 𝓤 (sem 𝓛 (Row.own_val r (row_val b o n ∷ []))) (A.lft κ q)))))
    from_gives v =
        let Is : Row.Denot → Type 0 = λ r. (slots_ptr r ≡ block_ptr b o) × (slots_len r ≡ n) × (slots_items r ≡ zeros n)
        × (slots_filled r ≡ empty n) in
        qed 𝓛 (raw (From.post at_from v) ∷ []) ∵ updating ! $
        use1 𝓛 (later (some (λ (r : Row.Denot). ((‵ (flft κ q) ⊛ ‵ ftrue) ⊛ ‵ (Row.own_val r (v ∷ []))) ⊛ some (λ (ws : Unit {0}
        × (Unit {0} × Unit {0})). ‵ (fsep ftrue (fsep ftrue ftrue)) ⊛ raw (fact 𝓤 (Is r)))))) (id⊢ 𝓤 _) $
        await ! tt $ pick ! (λ r. split ! $ move ! (1 ∷ []) $
        pick ! (λ ws. split ! $ drop ! $ heard ! (Is r) (λ is. split ! $ split ! $ move ! (2 ∷ []) $
        row_had byte ! r (v ∷ []) (λ b' o' at e fn fit. row_made byte ! r b' o' at fn fit $
        let same : row_val b' o' (slots_len r) ≡ row_val b o n = λ i. words_val ((sym at ∙ is.0) i) (is.1 i) in
        rewrite ! 0 (λ (u : Val). ‵ (Row.own_val r (u ∷ []))) same refl $ now ! $
        show ! (λ (d : Row.Denot). guard 𝓤 ((v ≡ row_val b o n)
        × Made b o n d) (sep 𝓤 (sem 𝓛 (Row.own_val d (row_val b o n ∷ []))) (A.lft κ q))) r $
        check ! (ap only e ∙ same, (is.0, is.1)) $ keep ! (0 ∷ 1 ∷ []) $ done !))))

  module _ (κ : Lft) (q : Share) (r : Row.Denot) (b o : ℕ) where
    abbrev pub at_into : Into.Ghost
    at_into = (((κ, tt), (q, tt), tt, (r, tt), (row_val b o (slots_len r) ∷ [], tt)), tt)

    pub into_goes : ent 𝓤 (sep 𝓤 (sem 𝓛 (Row.own_val r (row_val b o (slots_len r) ∷ []))) (A.lft κ q)) (Into.pre at_into)
    into_goes =
        qed 𝓛 (‵ (Row.own_val r (row_val b o (slots_len r) ∷ [])) ∷ ‵ (flft κ q) ∷ []) ∵ nothing ! $
        use0 𝓛 (raw (fact 𝓤 (κ ⊑ []))) (within κ) $ join ! $
        nothing ! $ move ! (2 ∷ 0 ∷ []) $ fjoin ! $ nothing ! $ move ! (3 ∷ 0 ∷ []) $ join ! $ join ! $ done !

    pub into_gives : (v : Val) → slots_ptr r ≡ block_ptr b o → ent 𝓤 (Into.post at_into v)
        (H.⇛ (guard 𝓤 (v ≡ row_val b o (slots_len r)) (sep 𝓤 (sem 𝓛 (places b o (slots_items r) (slots_filled r))) (A.lft κ q))))
    into_gives v at =
        let Parts : RattleType = Tuple (RawPtr ∷ usize ∷ []) in let Is : Parts.Denot → Type 0 = λ p. (p.0 ≡ slots_ptr r)
        × (p.1 ≡ slots_len r) in
        qed 𝓛 (raw (Into.post at_into v) ∷ []) ∵ updating ! $
        use1 𝓛 (later (some (λ (p : Parts.Denot). ((‵ (flft κ q) ⊛ ‵ ftrue) ⊛ ‵ (Parts.own_val p (v ∷ []))) ⊛ some (λ (ws : Unit {0}
        × Unit {0}). ‵ (fsep ftrue ftrue)
        ⊛ raw (fact 𝓤 (Is p)) ⊛ ‵ (owned (R byte) (slots_ptr r) (slots_len r) (slots_items r) (slots_filled r)))))) (id⊢ 𝓤 _) $ await ! tt $
        pick ! (λ p.
        split ! $ move ! (1 ∷ []) $ pick ! (λ ws. split ! $ drop ! $ split ! $ heard ! (Is p) (λ is. fsplit ! $ drop ! $
        rewrite ! 0 (λ (z : Ptr). ‵ (in_block z (slots (R byte) z (slots_items r) (slots_filled r)))) at refl $ move ! (1 ∷ []) $ split ! $
        split ! $ move ! (2 ∷ []) $
        fpick ! (λ vss. fsplit ! $ feq_l ! (λ all. fsplit3 ! $ feq_l ! (λ e₀. fsplit ! $ feq_l ! (λ e₁. now ! $
        check ! (ap only all ∙ (λ i. vstruct (of_list (e₀ i ++ (e₁ i ++ [])))) ∙ (λ i. words_val ((is.0 ∙ at) i) (is.1 i))) $
        keep ! (4 ∷ 2 ∷ []) $ done !)))))))
