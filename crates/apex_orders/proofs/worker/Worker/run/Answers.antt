use Rattle.apex_orders.proofs.Common.{◌≡◌, ◌≤◌, [], false, AreContinued, HasLeft, IsLaterWorker, IsWorkerOf, reach}
use Rattle.apex_orders.proofs.WorkerLemmas.{all_on_ok}
use Rattle.apex_orders.proofs.worker.Worker.run.Goals as goal

pub returns : goal.returns
returns c =
    let shared = c.args.shared.now in
    let start = c.args.self.now in
    let ran = c.try_points-self.new.self in
    let told = c.try_points-self.ensures in
    all_on_ok c.try_points-self.result (IsWorkerOf shared ran) (IsLaterWorker start ran) (HasLeft ran) (AreContinued shared ran) (reach ran ≡ reach start) (shared.stops ≡ false → c.args.parts ≤ 1 → ran.points.items ≡ []) _
    (λ (is : IsWorkerOf shared ran) (later : IsLaterWorker start ran) (left : HasLeft ran) (tried : AreContinued shared ran) (same : reach ran ≡ reach start) (all : shared.stops ≡ false → c.args.parts ≤ 1 → ran.points.items ≡ []).
    record {
      valid = record {
        all = is.all;
        trial = is.trial;
        given = record { within = is.given.within; room = is.given.room; each = is.given.each };
        found = λ one has. let own = is.found one has in record { before = own.before; partition = own.partition; hash = own.hash; after = own.after; made = own.made };
        hashed = is.hashed;
        apart = is.apart;
        orders = is.orders;
        clocked = is.clocked;
        replies = is.replies;
      };
      later = record { base = later.base; first = later.first; given = later.given; orders = later.orders; replies = later.replies };
      left = record { done = left.done; away = left.away; count = left.count; all = left.all };
      tried = tried;
      reach = same;
      all = all;
    })
    told.valid told.later told.left told.tried told.reach told.all
