use Rattle.std.proofs.Common.{arith, refl, ap, ◌∙◌, ◌≡◌, ◌+◌, length, length-set, slice_index, suc}
use Rattle.ul_interner.specs.Index.{bucket_of}
use Rattle.ul_interner.proofs.Indexing.{built_next, bucket_at, length_buckets}
use Rattle.ul_interner.proofs.bodies.index_all.Goals as goal

pub loop-place-preserved : goal.loop-place-preserved
loop-place-preserved g c =
    let count = length c.args.newest.now in
    let i = c.loop-place.invariant in
    let p = c.loop-place.place in
    let b = c.bucket-bucket.result in
    let is_b : b ≡ bucket_of count c.hash.result = c.bucket-bucket.ensures.bucket ∙ ap (λ z. bucket_of z c.hash.result) i.1 in (
      length-set c.loop-place.older p (slice_index c.loop-place.newest b) ∙ i.0,
      length-set c.loop-place.newest b (p + 1) ∙ i.1,
      built_next _ count p (p + 1) b (slice_index c.loop-place.newest b) c.loop-place.older c.loop-place.newest _ _ (let e : p + 1 ≡ suc p = omega arith in e) i.2 (omega (arith, length_buckets count c.args.marks.now, c.loop-place-test.true))
          (bucket_at count c.args.marks.now p c.index-marks-place.result c.hash.result b c.loop-place-test.true c.index-marks-place.is c.hash.ensures is_b)
          (omega (arith, c.bucket-bucket.ensures.below, i.1)) refl refl refl,
    )
