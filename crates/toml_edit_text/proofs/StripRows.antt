-- The two raw calls of `Slots` at bytes, and a full row as the bytes of a `Strip`. Assumes `Logic`.
use Rattle.std.proofs.Common.{◌≡◌, ℕ, ◌*◌, ◌<◌, ◌^◌, List, [], ◌∷◌, ◌++◌, length, refl, sym, ap, ◌∙◌, subst, w64, arith, T}
use mathlib.Core.Bool.{Bool, true, false}
use lib.ListN.{get_or, replicate, length-replicate}
use seplogic.Ra.Ura.{Ura}
use base.Fraction.{full_share}
use base.Logic.{SProp, ent, ex, guard, emp, via, id⊢}
use base.Fml.{ftrue, fsep, flft}
use contract.BorrowLft.{◌⊑◌, ⊑_static}
use contract.Monad.{Fun, fact, fact_i}
use mir.Val.{Val, vint, vptr, vstruct, of_list, has_ty, WT}
use prog.Memory.{Memory}
use prog.Routine.{Routine}
use types.Kit.{‵, raw, ◌⊛◌, some, later, ◌$◌, ◌∵◌, !, qed, move, drop, use0, use1, split, join, pick, rewrite, fsplit, fsplit3, fjoin}
use types.Kit.{fjoin3, fpick, fpack, feq_l, feq_i, flt_i, check, show, await, updating, now, done}
use types.Logic.{Logic, sem}
use types.SemTy.{cells}
use denote.Builtin.{u8, usize, RawPtr}
use denote.Index.{whole_in, whole_out}
use denote.Memory.{mem}
use denote.Param.{layout}
use denote.Param.Laws.{Laws, of_field}
use denote.Param.Shared.{copy_shared}
use denote.RattleType.{RattleType}
use denote.RawPtr.{Ptr, block_ptr, in_block}
use denote.Steps.{only, heard, nothing}
use denote.Struct.Field.{u8-field}
use denote.Struct.Laws.{u8-laws, u8-copy}
use denote.Struct.Tuple.{Tuple}
use denote.Triple.Spec.{triple_of}
use denote.Triple.Statement.{Contract}
use Rattle.core.specs.Mem.Slots.{slots_items, slots_filled, slots_ptr, slots_len}
use Rattle.core.specs.Mem.Slots.Ownership.{slots, owned}
use Rattle.core.specs.contracts.slots.Slots as row-type
use Rattle.core.specs.contracts.slots.Slots.from_raw_parts as FR
use Rattle.core.specs.contracts.slots.Slots.into_raw_parts as IR
use Rattle.core.proofs.mem.Param.{El}
use Rattle.core.proofs.slots.Opens.{words_val, row_val, row_had, row_made}
use Rattle.core.proofs.slots.Places.{of_row, to_row}
use Rattle.toml_edit_text.specs.Strip.{Placed, strip_owns}

abbrev pub byte_laws : Laws u8
byte_laws = of_field u8-field u8-laws refl (copy_shared u8-field u8-copy)

abbrev pub Byte : El
Byte = record { row = u8; laws = byte_laws }

abbrev pub Row : RattleType
Row = row-type.the_row u8

abbrev pub row_Typed : (v : Val) (b o n : ℕ) → v ≡ row_val b o n → n < 2 ^ 64 → T (has_ty (layout Row) v) × WT v
row_Typed v b o n e fn = subst (λ (z : Val). T (has_ty (layout Row) z) × WT z) (sym e) (tt, (tt, (record { fits = fn }, tt)))

abbrev pub parts_Typed : (v : Val) (b o n : ℕ) → v ≡ row_val b o n → n < 2 ^ 64 → T (has_ty (layout (Tuple (RawPtr ∷ usize ∷ []))) v) × WT v
parts_Typed v b o n e fn =
    subst (λ (z : Val). T (has_ty (layout (Tuple (RawPtr ∷ usize ∷ []))) z) × WT z) (sym e) (tt, (tt, (record { fits = fn }, tt)))

module _ {M : Type 1} {𝓤 : Ura M} (𝓛 : Logic 𝓤) (b o : ℕ) (xs : List ℕ) where
  pub to_bytes : (fs : List Bool) → length fs ≡ length xs → ((k : ℕ) → k < length fs → get_or fs k false ≡ true) → length xs < 2 ^ 63
      → ent 𝓤 (sem 𝓛 (slots u8 (block_ptr b o) xs fs)) (sem 𝓛 (strip_owns (block_ptr b o) xs))
  to_bytes fs long full fit =
      qed 𝓛 (‵ (slots u8 (block_ptr b o) xs fs) ∷ []) ∵ use1 𝓛 (‵ (cells (mem u8) xs b o))
      (via 𝓤 _ (to_row Byte 𝓛 b xs fs o long full) (whole_in 𝓛 u8 xs b o)) $
      nothing ! $ fpack ! (Placed (block_ptr b o) xs) (λ _. ftrue) (tt, fit) $ done !

  pub of_bytes : ent 𝓤 (sem 𝓛 (cells (mem u8) xs b o)) (sem 𝓛 (slots u8 (block_ptr b o) xs (replicate (length xs) true)))
  of_bytes = via 𝓤 _ (whole_out 𝓛 u8 xs b o) (of_row Byte 𝓛 b xs o)

module _ {M : Type 1} {𝓤 : Ura M} (𝓛 : Logic 𝓤) (at_mem : Memory → SProp 𝓤) (run : Routine → Fun 𝓤) where
  open 𝓛 use {H}

  abbrev pub From : Contract 𝓤
  From = triple_of 𝓛 (FR.signature u8) (FR.spec u8 𝓛 at_mem run)

  abbrev pub Into : Contract 𝓤
  Into = triple_of 𝓛 (IR.signature u8) (IR.spec u8 𝓛 at_mem run)

  module _ (b o : ℕ) (xs : List ℕ) where
    abbrev n : ℕ
    n = length xs

    abbrev fs : List Bool
    fs = replicate n true

    abbrev pub at_from : From.Ghost
    at_from = ((([], tt), (full_share, tt), tt, (block_ptr b o, (n, tt)), (vptr b o ∷ [], (vint w64 n ∷ [], tt))), (xs, fs))

    pub from_goes : n < 2 ^ 63 → ent 𝓤 (sem 𝓛 (slots u8 (block_ptr b o) xs fs)) (From.pre at_from)
    from_goes fit =
        let Ok : Type 0 = (n ≡ length xs) × (n ≡ length fs) in
        qed 𝓛 (‵ (slots u8 (block_ptr b o) xs fs) ∷ []) ∵ flt_i ! (n * 1) (2 ^ 63) (omega (arith, fit)) $ fjoin ! $
        use0 𝓛 (raw (fact 𝓤 Ok)) (fact_i 𝓤 Ok (emp 𝓤) (refl, sym (length-replicate n true))) $ join ! $
        use0 𝓛 (raw (fact 𝓤 ([] ⊑ []))) (fact_i 𝓤 ([] ⊑ []) (emp 𝓤) (⊑_static [])) $ join ! $
        nothing ! $ flt_i ! n (2 ^ 64) (omega (arith, fit)) $ feq_i ! (List Val) (vint w64 n ∷ []) (vint w64 n ∷ []) refl $ fjoin ! $
        feq_i ! (List Val) (vptr b o ∷ []) (vptr b o ∷ []) refl $ fjoin3 ! $
        nothing ! $ use0 𝓛 (‵ (flft [] full_share)) (𝓛.lfts.lft-nil full_share) $ join ! $ join ! $ done !

    -- the row is at the pointer, and as long
    abbrev pub Made : Val → Row.Denot → Type 0
    Made v r = (v ≡ row_val b o n) × (slots_ptr r ≡ block_ptr b o) × (slots_len r ≡ n)

    pub from_gives : (v : Val) → ent 𝓤 (From.post at_from v)
        (H.⇛ (ex 𝓤 (λ (r : Row.Denot). guard 𝓤 (Made v r) (sem 𝓛 (Row.own_val r (row_val b o n ∷ []))))))
    from_gives v =
        let Is = λ (r : Row.Denot). (slots_ptr r ≡ block_ptr b o) × (slots_len r ≡ n) × (slots_items r ≡ xs) × (slots_filled r ≡ fs) in
        qed 𝓛 (raw (From.post at_from v) ∷ []) ∵ updating ! $
        use1 𝓛 (later (some (λ (r : Row.Denot). ((‵ (flft [] full_share) ⊛ ‵ ftrue) ⊛ ‵ (Row.own_val r (v ∷ []))) ⊛ some (λ (ws : Unit {0}
        × (Unit {0} × Unit {0})). ‵ (fsep ftrue (fsep ftrue ftrue)) ⊛ raw (fact 𝓤 (Is r)))))) (id⊢ 𝓤 _) $
        await ! tt $ pick ! (λ r. split ! $ move ! (1 ∷ []) $
        pick ! (λ ws. split ! $ drop ! $ heard ! (Is r) (λ is. split ! $ drop ! $ row_had Byte ! r (v ∷ []) (λ b' o' at e fn fit.
        let same : row_val b' o' (slots_len r) ≡ row_val b o n = λ i. words_val ((sym at ∙ is.0) i) (is.1 i) in
        row_made Byte ! r b' o' at fn fit $ rewrite ! 0 (λ (u : Val). ‵ (Row.own_val r (u ∷ []))) same refl $ now ! $
        show ! (λ (d : Row.Denot). guard 𝓤 (Made v d) (sem 𝓛 (Row.own_val d (row_val b o n ∷ [])))) r $
        check ! (ap only e ∙ same, is.0, is.1) $ done !))))

  module _ (r : Row.Denot) (b o : ℕ) where
    abbrev word : Val
    word = row_val b o (slots_len r)

    abbrev pub at_into : Into.Ghost
    at_into = ((([], tt), (full_share, tt), tt, (r, tt), (word ∷ [], tt)), tt)

    pub into_goes : ent 𝓤 (sem 𝓛 (Row.own_val r (word ∷ []))) (Into.pre at_into)
    into_goes =
        qed 𝓛 (‵ (Row.own_val r (word ∷ [])) ∷ []) ∵ nothing ! $
        use0 𝓛 (raw (fact 𝓤 ([] ⊑ []))) (fact_i 𝓤 ([] ⊑ []) (emp 𝓤) (⊑_static [])) $ join ! $
        nothing ! $ move ! (2 ∷ 0 ∷ []) $ fjoin ! $ nothing ! $ use0 𝓛 (‵ (flft [] full_share)) (𝓛.lfts.lft-nil full_share) $ join ! $
        join ! $ done !

    pub into_gives : (v : Val) → slots_ptr r ≡ block_ptr b o
        → ent 𝓤 (Into.post at_into v) (H.⇛ (guard 𝓤 (v ≡ word) (sem 𝓛 (slots u8 (block_ptr b o) (slots_items r) (slots_filled r)))))
    into_gives v at =
        let Parts : RattleType = Tuple (RawPtr ∷ usize ∷ []) in
        qed 𝓛 (raw (Into.post at_into v) ∷ []) ∵ updating ! $
        use1 𝓛 (later (some (λ (p : Parts.Denot). ((‵ (flft [] full_share) ⊛ ‵ ftrue) ⊛ ‵ (Parts.own_val p (v ∷ []))) ⊛ some
        (λ (ws : Unit {0} × Unit {0}). ‵ (fsep ftrue ftrue)
        ⊛ raw (fact 𝓤 ((p.0 ≡ slots_ptr r) × (p.1 ≡ slots_len r))) ⊛ ‵
        (owned u8 (slots_ptr r) (slots_len r) (slots_items r) (slots_filled r)))))) (id⊢ 𝓤 _) $ await ! tt $ pick ! (λ p.
        split ! $ move ! (1 ∷ []) $ pick ! (λ ws. split ! $ drop ! $ split ! $
        heard ! ((p.0 ≡ slots_ptr r) × (p.1 ≡ slots_len r)) (λ is. fsplit ! $ drop ! $
        rewrite ! 0 (λ (z : Ptr). ‵ (in_block z (slots u8 z (slots_items r) (slots_filled r)))) at refl $ move ! (1 ∷ []) $ split ! $
        drop ! $
        fpick ! (λ vss. fsplit ! $ feq_l ! (λ whole. fsplit3 ! $ feq_l ! (λ e₀. fsplit ! $ feq_l ! (λ e₁. drop ! $ drop ! $ now ! $
        check ! (ap only whole ∙ (λ i. vstruct (of_list (e₀ i ++ (e₁ i ++ [])))) ∙ (λ i. words_val ((is.0 ∙ at) i) (is.1 i))) $
        done !)))))))
