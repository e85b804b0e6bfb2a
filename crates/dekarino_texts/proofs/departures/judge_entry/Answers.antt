use Rattle.dekarino_texts.proofs.Common.{◌≡◌, List, OnOk, ◌∙◌, subst, rules, instead_of, entry_in_ours, replaced_in, restored, polled_entry, LoggedDeparture, departures_handed, place_with, IsHanded}
use Rattle.apex_judge.proofs.OwnIdLemmas.{put_back}
use Rattle.dekarino_texts.proofs.departures.judge_entry.Goals as goal

pub returns-clause-handed : goal.returns-clause-handed
returns-clause-handed g c =
    let config = c.args.judge.now.config in
    let ours : c.enter.new.entry ≡ entry_in_ours config c.args.ids.now c.args.entry.now = rw c.config.ensures at c.in_ok-replaced.ensures.entry in
    let replaced : c.in_ok-replaced.replaced ≡ replaced_in config c.args.ids.now c.args.entry.now = rw c.config.ensures at c.in_ok-replaced.ensures.replaced in
    let back : restored c.in_ok-replaced.replaced c.enter.new.entry ≡ c.args.entry.now =
    (λ i. restored (replaced i) (ours i)) ∙ put_back config c.args.ids.now c.args.entry.now in
    let configs : c.add_if_agreeing.new.judge.config ≡ config = c.add_if_agreeing.ensures.config in
    let logs : c.add_if_agreeing.new.judge.log ≡ c.args.judge.now.log = c.in_ok-add_if_agreeing.ensures.same (search rules) in
    let most = c.args.most in
    let count = c.args.counts.departures in
    let place = c.args.place in
    let list : departures_handed most count (place_with place c.in_ok-replaced.replaced) (restored c.in_ok-replaced.replaced c.enter.new.entry) c.enter.new.entry.call (instead_of c.add_if_agreeing.new.judge.config c.add_if_agreeing.new.judge.log (polled_entry place.wait c.enter.new.entry))
    ≡ departures_handed most count (place_with place (replaced_in config c.args.ids.now c.args.entry.now)) c.args.entry.now (entry_in_ours config c.args.ids.now c.args.entry.now).call (instead_of config c.args.judge.now.log (polled_entry place.wait (entry_in_ours config c.args.ids.now c.args.entry.now))) =
    λ i. departures_handed most count (place_with place (replaced i)) (back i) (ours i).call (instead_of (configs i) (logs i) (polled_entry place.wait (ours i))) in
    subst (λ (pieces : List LoggedDeparture). OnOk c.judge_departing.result (IsHanded g.S.DepartureSink.takes c.args.sink.now pieces c.judge_departing.new.sink)) list c.judge_departing.ensures.handed
