-- The names of the logic that the walks by hand use.
pub use Rattle.std.proofs.Common.{◌≡◌, ℕ, ◌*◌, ◌^◌, ◌<◌, List, [], ◌∷◌, ◌++◌, length, refl, sym, ap, ◌∙◌, subst, w64, arith}
pub use Rattle.std.proofs.raw_atomic.Walks.{proved, proved_at, leaves}
pub use base.Logic.{SProp, emp}
pub use base.Fml.{Lft, ftrue, fhide, flft}
pub use contract.Monad.{fact, fact_i}
pub use contract.Running.{tables}
pub use denote.Builtin.{u8, usize, RefOf}
pub use denote.Exit.{yes}
pub use denote.Laws.{Is, shows}
pub use denote.Memory.{cell_at, hidden_shr}
pub use denote.Opens.{unhide, hide}
pub use denote.Plain.{uint_vals, uint_Tells}
pub use denote.RattleType.{owns}
pub use denote.RawPtr.{Ptr, block_ptr, ptr_val, block_of, count_of, at_block}
pub use denote.Ref.{shr_vals, shr_Tells}
pub use denote.Signature.{types_at, plain}
pub use denote.Steps.{nothing, heard, looks, shuts, peeks}
pub use denote.Triple.Call.{calls_at_last}
pub use denote.Triple.Table.{framed}
pub use denote.Triple.Walked.{Stays, walk_of, stay_dropped, Goes-dropped}
pub use mir.Syntax.{named}
pub use mir.Val.{Val, vint, vptr, WT}
pub use prog.Wp.{WpFn}
pub use types.ByLocal.{alloc_all, pass_all, free_all, look_at, get, get_in, through, sets, sets_last, is, env, lands_last}
pub use types.Kit.{
  ‵,
  raw,
  ◌⊛◌,
  some,
  given,
  later,
  at_ret,
  ◌$◌,
  ◌∵◌,
  !,
  qed,
  by,
  move,
  keep,
  drop,
  split,
  join,
  fsplit,
  fjoin,
  fpick,
  pick,
  learn,
  use0,
  use1,
  rewrite,
  feq_i,
  flt_i,
  await,
}
pub use types.Part.{agg, sub, whole, look_in}
pub use types.Run.{enter, returns, first, blocks, exec, stop, fld, load, of_opd, no_more, and_then}
