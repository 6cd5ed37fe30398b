use Rattle.std.proofs.Common.{◌<◌, ℕ, sym, subst}
use Rattle.ul_ranges.specs.Blocks.{IsExact}
use Rattle.ul_ranges.specs.Forms.{HasBlocks}
use Rattle.ul_ranges.proofs.FormMaking.{ok_then, same_count, zipped_whole, zipped_sealed}
use Rattle.ul_ranges.proofs.forms.sealed_by.Goals as goal

pub words_by-requires : goal.words_by-requires
words_by-requires c = same_count _ _ _ _ _ c.requires.left c.requires.right

pub sealed-requires-clause-large : goal.sealed-requires-clause-large
sealed-requires-clause-large c = subst (λ (n : ℕ). 64 < n) (sym c.size_in.ensures) c.requires.large

pub sealed-requires-clause-exact : goal.sealed-requires-clause-exact
sealed-requires-clause-exact c =
    subst (λ (n : ℕ). IsExact n c.in_ok-blocks.blocks.items) (sym c.size_in.ensures)
    (zipped_whole c.args.operation _ _ _ _ _ _ c.requires.left c.requires.right c.in_ok-blocks.ensures)

pub returns : goal.returns
returns c =
    let size = sym c.size_in.ensures in
    ok_then c.sealed.result _ _ c.sealed.ensures (λ f s. zipped_sealed c.args.operation c.size_in.result _ _ f _ _ c.in_ok-blocks.blocks.items
    (subst (λ (n : ℕ). HasBlocks n c.args.mine.now c.args.xs.now) size c.requires.left)
    (subst (λ (n : ℕ). HasBlocks n c.args.theirs.now c.args.ys.now) size c.requires.right) c.in_ok-blocks.ensures s)
