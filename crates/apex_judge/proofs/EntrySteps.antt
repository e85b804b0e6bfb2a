-- What one entry more changes in the picture that a log gives, as a judge finds it.
use Rattle.apex_judge.proofs.Common.{◌≡◌, ℕ, Bool, true, false, ◌||◌, if◌then◌else◌, List, [], ◌∷◌, ◌++◌, position, is_some, option_map, Option, Some, None, refl, sym, ap, ◌∙◌, subst, bytes_eq, Call, Moment, Reply, Received, Configuration, port_of, ports_of, id_named, is_queuing_port, Port as ConfiguredPort, Entry, History, entry_of, IsIdentifier, with_id, queuing_only, sampling_only, queuing_of_id, sampling_of_id}
use Rattle.apex_judge.proofs.Common.{is_identifier, PartitionState, IsPartitionShown, doubted_of, Picture, waiting_at, reply_in, agrees, with_effects, is_among, is_believed, when_departing, judged, picture_of, id_in, port_about, is_of_mode, subject_at, subject_of, is_doubted, with_doubt}
use Rattle.apex_types.specs.declared.call.Call.TheVariants as calls
use Rattle.apex_judge.specs.declared.subject.Subject.TheVariants.{Mode}
use Rattle.apex_judge.proofs.PictureLaws.{picture_of-append}
use Rattle.apex_judge.proofs.ReplyTests.{agrees_is}

-- ---- the picture after an entry

module _ (config : Configuration) (h : History) (e : Entry) where
  abbrev before : Picture
  before = picture_of config h

  abbrev standard : Reply
  standard = reply_in config before e.partition e.at e.call

  pub after_agreeing : agrees (reply_in config (picture_of config h) e.partition e.at e.call) e.reply ≡ true
      → picture_of config (h ++ e ∷ []) ≡ with_doubt e.partition (subject_of config e e.reply) false (with_effects config e (picture_of config h))
  after_agreeing test =
      picture_of-append config h e
      ∙ (ap (λ (b : Bool). judged config e standard (subject_of config e standard) b before) test
      ∙ ap (λ (reply : Reply). with_doubt e.partition (subject_of config e reply) false (with_effects config e before)) (sym (agrees_is standard e.reply test)))

  pub after_departing : (expected : Reply) → expected ≡ reply_in config (picture_of config h) e.partition e.at e.call → agrees expected e.reply ≡ false
      → picture_of config (h ++ e ∷ []) ≡ with_doubt e.partition (subject_of config e expected) true (when_departing config e expected (is_believed config e expected (subject_of config e expected) (picture_of config h)) (picture_of config h))
  after_departing expected is test =
      picture_of-append config h e
      ∙ (ap (λ (reply : Reply). judged config e reply (subject_of config e reply) (agrees reply e.reply) before) (sym is)
      ∙ ap (λ (b : Bool). judged config e expected (subject_of config e expected) b before) test)

-- ---- doubts

module _ (config : Configuration) (p : ℕ) where
  sampling_identifier : (number : Option ℕ) (id : ℕ) → id_in (sampling_of_id config p number) ≡ Some id → IsIdentifier (ports_of config p) id
  sampling_identifier None id h = absurd (cc)
  sampling_identifier (Some number) id h = by_port (port_of config p number) refl h
    where
      by_kind : (port : ConfiguredPort) (b : Bool) → port_of config p number ≡ Some port → id_in (with_id number (if b then None else Some port)) ≡ Some id → IsIdentifier (ports_of config p) id
      by_kind port true is h = absurd (cc)
      by_kind port false is h = let same : number ≡ id = cc in subst (IsIdentifier (ports_of config p)) same (is_identifier config p number port is)

      by_port : (port : Option ConfiguredPort) → port_of config p number ≡ port → id_in (with_id number (sampling_only port)) ≡ Some id → IsIdentifier (ports_of config p) id
      by_port None is h = absurd (cc)
      by_port (Some port) is h = by_kind port (is_queuing_port port.kind) is h

  queuing_identifier : (number : Option ℕ) (id : ℕ) → id_in (queuing_of_id config p number) ≡ Some id → IsIdentifier (ports_of config p) id
  queuing_identifier None id h = absurd (cc)
  queuing_identifier (Some number) id h = by_port (port_of config p number) refl h
    where
      by_kind : (port : ConfiguredPort) (b : Bool) → port_of config p number ≡ Some port → id_in (with_id number (if b then Some port else None)) ≡ Some id → IsIdentifier (ports_of config p) id
      by_kind port false is h = absurd (cc)
      by_kind port true is h = let same : number ≡ id = cc in subst (IsIdentifier (ports_of config p)) same (is_identifier config p number port is)

      by_port : (port : Option ConfiguredPort) → port_of config p number ≡ port → id_in (with_id number (queuing_only port)) ≡ Some id → IsIdentifier (ports_of config p) id
      by_port None is h = absurd (cc)
      by_port (Some port) is h = by_kind port (is_queuing_port port.kind) is h

  about_identifier : (call : Call) (id : ℕ) → port_about config p call ≡ Some id → IsIdentifier (ports_of config p) id
  about_identifier (calls.CreateSampling name size direction refresh) id h = sampling_identifier (id_named config p name) id h
  about_identifier (calls.WriteSampling number message) id h = sampling_identifier (Some number) id h
  about_identifier (calls.ReadSampling number) id h = sampling_identifier (Some number) id h
  about_identifier (calls.SamplingId name) id h = sampling_identifier (id_named config p name) id h
  about_identifier (calls.SamplingStatus number) id h = sampling_identifier (Some number) id h
  about_identifier (calls.CreateQueuing name size depth direction discipline) id h = queuing_identifier (id_named config p name) id h
  about_identifier (calls.SendQueuing number message) id h = queuing_identifier (Some number) id h
  about_identifier (calls.ReceiveQueuing number) id h = queuing_identifier (Some number) id h
  about_identifier (calls.QueuingId name) id h = queuing_identifier (id_named config p name) id h
  about_identifier (calls.QueuingStatus number) id h = queuing_identifier (Some number) id h
  about_identifier (calls.ClearQueuing number) id h = queuing_identifier (Some number) id h
  about_identifier (calls.SetMode number) id h = absurd (cc)

-- a state doubts what the picture doubts
pub doubts_alike : {A : Type 0} (config : Configuration) (picture : Picture) (p : ℕ) (state : PartitionState A) (at : Moment) (call : Call) (reply expected : Reply) → IsPartitionShown config picture p state
    → doubted_of state (subject_of config (entry_of p at call reply) expected) ≡ is_doubted picture p (subject_of config (entry_of p at call reply) expected)
doubts_alike config picture p state at call reply expected shown = by_mode (is_of_mode call reply || is_of_mode call expected) (port_about config p call) refl
  where
    by_mode : (b : Bool) (port : Option ℕ) → port_about config p call ≡ port → doubted_of state (if b then Mode else subject_at port) ≡ is_doubted picture p (if b then Mode else subject_at port)
    by_mode true port is = shown.mode_doubted
    by_mode false None is = refl
    by_mode false (Some id) is = shown.port_doubted id (about_identifier config p call id is)

-- ---- messages that wait

-- a message is among those that wait on the channel of the port
pub among : (picture : Picture) (port : Option ConfiguredPort) (c : ℕ) (message : List ℕ) → Some c ≡ option_map (λ one. one.channel) port
    → is_among (waiting_at picture port) (Received message) ≡ is_some (position (λ one. bytes_eq one message) (picture.waiting c))
among picture None c message is = absurd (cc)
among picture (Some port) c message is =
    let same : c ≡ port.channel = cc in
    ap (λ (d : ℕ). is_some (position (λ one. bytes_eq one message) (picture.waiting d))) (sym same)
