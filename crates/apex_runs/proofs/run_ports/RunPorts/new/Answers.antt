use Rattle.std.proofs.Common.{refl, sym, subst, inl, inr}
use Rattle.apex_module.specs.Configuration.{Configuration}
use Rattle.apex_observers.specs.Channels.{Channels, AreObservers}
use Rattle.apex_observers.specs.declared.publisher.ObserverFault.{ObserverFault}
use Rattle.apex_observers.specs.declared.publisher.ObserverFault.TheVariants as observer_fault
use Rattle.apex_ports.specs.History.{History}
use Rattle.apex_threads.specs.OnChannels.{ArePublished}
use Rattle.apex_threads.specs.Fault.{fault_without}
use Rattle.apex_runs.specs.Run.{IsPortsFault}
use Rattle.apex_runs.proofs.run_ports.RunPorts.new.Goals as goal

pub invariant_of-result : goal.invariant_of-result
invariant_of-result g c =
    let ports = c.in_ok-ports.ports in
    let unchanged = sym c.in-Ok.ensures.unchanged in
    record {
      published = subst (λ (channels : Channels). ArePublished ports.config ports.history channels) unchanged
          (subst (λ (config : Configuration). ArePublished config ports.history c.in_ok-publishers.publishers) c.config.ensures.config
          (subst (λ (h : History). ArePublished c.config.result.now h c.in_ok-publishers.publishers) (sym c.in_ok-ports.ensures.history) c.in_ok-publishers.ensures));
      observers = subst (λ (channels : Channels). AreObservers channels c.in-Ok.observers.items) unchanged c.in-Ok.ensures.each;
    }

is_ports_fault : (fault : ObserverFault) → IsPortsFault (fault_without fault)
is_ports_fault observer_fault.OutOfMemory = inl refl
is_ports_fault observer_fault.NoPlace = inr refl

pub returns-in-Err-clause-fault : goal.returns-in-Err-clause-fault
returns-in-Err-clause-fault g c = subst IsPortsFault (sym c.fault_without.ensures) (is_ports_fault c.in-Err.fault)
