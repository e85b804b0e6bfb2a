use Rattle.apex_log_orders.proofs.Common.{◌++◌, ◌∷◌, [], take, slice_index_or, sym, ap, ◌∙◌, take_more, slice_get-get_or, CallPlace, entries_at}
use Rattle.apex_log_orders.proofs.Beginnings.{entries_at-append}
use Rattle.apex_log_orders.proofs.replay.judge_at.Goals as goal

pub add_at-requires-clause-own : goal.add_at-requires-clause-own
add_at-requires-clause-own c =
    let places = c.args.places.now in
    let i = c.loop-place.place-index in
    c.requires i (slice_index_or places i (record { partition = 0; index = 0 })) (slice_get-get_or places i (record { partition = 0; index = 0 }) c.loop-place-test.true)

pub loop-place-preserved : goal.loop-place-preserved
loop-place-preserved c =
    let places = c.args.places.now in
    let i = c.loop-place.place-index in
    let none : CallPlace = record { partition = 0; index = 0 } in
    let place = slice_index_or places i none in
    record {
      config = c.add_at.ensures.config;
      log =
          c.in_ok-add_at.ensures.log
          ∙ (ap (λ log. log ++ entries_at c.args.logs.now (place ∷ [])) c.loop-place.invariant.log
          ∙ (sym (entries_at-append c.args.logs.now (take i places) (place ∷ []))
          ∙ ap (entries_at c.args.logs.now) (sym (take_more places i none c.loop-place-test.true))));
    }
