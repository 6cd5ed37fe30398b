-- The laws of the interner.
use Rattle.std.proofs.Common.{ℕ, ◌+◌, List, length, map, sym, ap, ◌∙◌, subst, arith, refl}
use Rattle.ul_interner.specs.Marked.{Marked, plain}
use Rattle.ul_interner.specs.Logs.{at, Begins, core_of}
use Rattle.ul_interner.specs.Headline.{InternerPromises}
use Rattle.ul_interner.specs.Laws.{EachTableShowsCore, EachTableTakesTurns, EachStoreIsPublish, EachOtherStepKeepsLogs, EachTreeHasOneMark}
use Rattle.ul_interner.proofs.Lists.{at_map, length_map, append_map}
use Rattle.ul_interner.proofs.Seen.{sound, wide_core, one_mark, one_id, stands_on, known_stands, same_id, same_tree}
use Rattle.ul_interner.proofs.Knowing.{known_stays, known_part}
use Rattle.ul_interner.proofs.Keeping.{kept_by_store, unmoved, won, gave, split_keeps, join_keeps}

module _ {L : Type 0} where
  begins_map : (xs ys : List (Marked L)) → Begins xs ys → Begins (map plain xs) (map plain ys)
  begins_map xs ys b = (map plain b.0, ap (map plain) b.1 ∙ append_map plain xs b.0)

  module _ (f : L → ℕ) where
    pub each_table_shows_core : EachTableShowsCore f
    each_table_shows_core n s r = (
      core_of r.0,
      record {
        run = r.1.are.run;
        sound = sound f n r.0 r.1.are;
        shards = wide_core f n r.0 r.1.are;
        counts = λ k l. r.1.count k l ∙ (sym (length_map plain (at r.0 k)) ∙ ap length (sym (at_map plain r.0 k)));
        bodies = λ k l z. (at r.0 k, r.1.home k l z, sym (at_map plain r.0 k));
        views = λ j v k e. subst (Begins (map plain (at v.logs k))) (sym (at_map plain r.0 k)) (begins_map (at v.logs k) (at r.0 k) ((r.1.fits j v e).seen k));
      },
    )

    pub each_table_takes_turns : EachTableTakesTurns f
    each_table_takes_turns n s r = record {
      bit = r.1.bit;
      held = λ k l is. let t = r.1.someone k l is in (t.0, t.1, t.2, t.3, λ i w e h. r.1.one i t.0 k w t.1 e t.2 h t.3);
      free = λ k l is. ((λ j v e h. let t = (r.1.fits j v e).turn k h in absurd (omega (arith, t.1, is))), (at r.0 k, r.1.home k l is));
    }

    pub each_store_is_publish : EachStoreIsPublish f
    each_store_is_publish n s logs id k v x held r store = let g = kept_by_store f n s logs r id k v x held (length v.hand + 1) refl store in (g.0, g.1, g.2)

    pub each_other_step_keeps_logs : EachOtherStepKeepsLogs f
    each_other_step_keeps_logs n logs s r = record {
      load = λ id i held v w here same fit. unmoved f n s logs r id i held v w here same fit;
      take = λ id k held v here idle l zero_now. won f n s logs r id k held v here idle l zero_now (at logs k) refl;
      give = λ id k v more len here holds. gave f n s logs r id k v more len here holds;
      split = λ id v here. split_keeps f n s logs r id v here;
      join = λ id other v u here two was idle. join_keeps f n s logs r id other v u here two was idle;
    }

    pub each_tree_has_one_mark : EachTreeHasOneMark f
    each_tree_has_one_mark n logs a b r ka kb =
        let sa = stands_on logs r.all a r.begins (known_stands logs a ka) in
        let sb = stands_on logs r.all b r.begins (known_stands logs b kb) in record {
          by_id = one_mark r.all a b sa sb;
          by_tree = λ e. one_mark r.all a b sa sb (one_id f n r.all a b r.are sa sb e);
        }

    pub interner_promises : InternerPromises f
    interner_promises = record {
      one_identity = λ shards h a b seen ka kb. ((λ e. same_tree h.logs a b ka kb e), (λ e. same_id f shards h.logs a b seen ka kb e));
      stays = λ before after m more known. known_stays before after more m known;
      parts = λ h m p k known at. known_part h m k p known at;
      core = each_table_shows_core;
      publish = each_store_is_publish;
      others = each_other_step_keeps_logs;
      turns = each_table_takes_turns;
    }
