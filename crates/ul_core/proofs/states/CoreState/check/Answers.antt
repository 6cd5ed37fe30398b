use Rattle.std.proofs.Common.{◌≡◌, ℕ, ◌%◌, length, ap, sym, ◌∙◌}
use Rattle.std.proofs.lemmas.Bool.{OnFalse_at, OnTrue_at}
use Rattle.ul_core.specs.Core.{Core, shard_of}
use Rattle.ul_core.specs.Hashes.{tree_hash}
use Rattle.ul_core.specs.declared.trees.Tree.{Tree}
use Rattle.ul_core.proofs.Looking.{not_true}
use Rattle.ul_core.proofs.states.CoreState.check.Goals as goal

-- the shard is the tree's own
own_shard : {L : Type 0} (f : L → ℕ) (s : Core L) (t : Tree L) (shard found hash : ℕ) → found ≡ shard → found ≡ hash % length s.logs → hash ≡ tree_hash f t → shard ≡ shard_of f s t
own_shard f s t shard found hash same is own = sym same ∙ is ∙ ap (λ h. h % length s.logs) own

pub returns-clause-may : goal.returns-clause-may
returns-clause-may g c = record {
  own = own_shard g.L.Label.hash_of c.args.self.now c.args.plant.now _ _ _ c.if-shard_at-shard.false c.shard_at.ensures.shard c.look-hash.ensures.hash;
  fresh = λ h. not_true c.stands.result c.if-stands.false (c.stands.ensures.1 h);
  parts = OnTrue_at c.if-not-all_stand.false c.look-hash.ensures.all;
}

pub returns-then-stands-clause-first : goal.returns-then-stands-clause-first
returns-then-stands-clause-first g c = (
  own_shard g.L.Label.hash_of c.args.self.now c.args.plant.now _ _ _ c.if-shard_at-shard.false c.shard_at.ensures.shard c.look-hash.ensures.hash,
  c.stands.ensures.0 c.if-stands.true,
)

pub returns-then-not-all_stand-clause-first : goal.returns-then-not-all_stand-clause-first
returns-then-not-all_stand-clause-first g c = (
  own_shard g.L.Label.hash_of c.args.self.now c.args.plant.now _ _ _ c.if-shard_at-shard.false c.shard_at.ensures.shard c.look-hash.ensures.hash,
  (λ h. not_true c.stands.result c.if-stands.false (c.stands.ensures.1 h)),
  OnFalse_at c.if-not-all_stand.true c.look-hash.ensures.some,
)
