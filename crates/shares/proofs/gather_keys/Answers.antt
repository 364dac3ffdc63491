-- `shares::gather_keys`: one key more; at the end, all n.
-- Assumes nothing.
use Rattle.std.proofs.Common.{◌≡◌, refl, sym, arith}
use Rattle.lists.proofs.Loops.{tab_none, written_next, kept_next}
use Rattle.shares.proofs.gather_keys.Goals as goal

pub loop-k-init : goal.loop-k-init
loop-k-init g c = record { keys = λ α β h. (sym (tab_none α), sym (tab_none β)); others_kept = (refl, refl) }

pub loop-k-preserved : goal.loop-k-preserved
loop-k-preserved g c =
    record {
      keys =
          λ α β h.
          let so_far = c.loop-k.invariant.keys α β h in
          let given = h _ _ (omega arith) c.key-key.ensures in (
            written_next α c.loop-k.alphas c.loop-k.k _ _ (omega arith) (omega arith) so_far.0 given.0,
            written_next β c.loop-k.betas c.loop-k.k _ _ (omega arith) (omega arith) so_far.1 given.1,
          );
      others_kept = (
        kept_next c.loop-k.alphas _ c.loop-k.k _ _ (omega arith) c.loop-k.invariant.others_kept.0,
        kept_next c.loop-k.betas _ c.loop-k.k _ _ (omega arith) c.loop-k.invariant.others_kept.1,
      );
    }

pub returns-clause-keys : goal.returns-clause-keys
returns-clause-keys g c =
    λ α β h.
    let all : c.args.n ≡ c.loop-k.k = omega arith in
    rw all (c.loop-k.invariant.keys α β h)

pub returns-clause-others_kept : goal.returns-clause-others_kept
returns-clause-others_kept g c =
    let all : c.args.n ≡ c.loop-k.k = omega arith in
    rw all c.loop-k.invariant.others_kept
