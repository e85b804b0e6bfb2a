-- What reading returns, step by step.
use Rattle.apex_config.proofs.Common.{◌≡◌, ◌≢◌, ℕ, Bool, true, false, cond, List, [], ◌∷◌, Option, Some, None, option_map, Result, Ok, Err, IfErr, IfSome, refl, sym, ap, subst, is_utf8, IsUtf8, Data, Members, table, Place, Configuration, wrong_form, ConfigText, config_text_of, found_by, passes, RefusalData, refused_by, first_refusal, refusal_of, configuration_of, unless_refused, document_of, read_of_document}
use Rattle.apex_config.proofs.Common.{read_of}
use Rattle.std.proofs.lemmas.Str.{IsUtf8-from_is_utf8, is_utf8-from_IsUtf8}
use Rattle.toml.specs.Parse.{parse_document}
use Rattle.apex_module.specs.declared.fault.ConfigFault.{ConfigFault}
use Rattle.apex_module.specs.declared.fault.ConfigFault.TheVariants.{Shape, OutOfMemory}

-- ---- bytes and their document

pub is_document : (bytes : List ℕ) (document : Members) → IsUtf8 bytes → parse_document bytes ≡ Some document → document_of bytes ≡ Some (table document)
is_document bytes document text parsed = rw (is_utf8-from_IsUtf8 bytes text, parsed) refl

none_in : (bytes : List ℕ) (b : Bool) → is_utf8 bytes ≡ b → (IsUtf8 bytes → parse_document bytes ≡ None) → cond b (option_map table (parse_document bytes)) None ≡ None
none_in bytes true is refused = ap (option_map table) (refused (IsUtf8-from_is_utf8 bytes is))
none_in bytes false is refused = refl

pub no_document : (bytes : List ℕ) → (IsUtf8 bytes → parse_document bytes ≡ None) → document_of bytes ≡ None
no_document bytes refused = none_in bytes (is_utf8 bytes) refl refused

-- ---- each refusal has a place

refused_placed : (fault : ConfigFault) (places : List Place) (later : Option RefusalData) → IfSome later (λ refusal. refusal.places ≢ []) → IfSome (refused_by fault places later) (λ refusal. refusal.places ≢ [])
refused_placed fault [] later h = h
refused_placed fault (place ∷ places) later h = λ e. absurd cc

first_placed : (faults : List ConfigFault) (config : ConfigText) → IfSome (first_refusal faults config) (λ refusal. refusal.places ≢ [])
first_placed [] config = tt
first_placed (fault ∷ faults) config = refused_placed fault (found_by fault config) (first_refusal faults config) (first_placed faults config)

value_placed : (document : Data) → IfSome (refusal_of document) (λ refusal. refusal.places ≢ [])
unfolding refusal_of
value_placed document = refused_placed Shape (wrong_form document) _ (first_placed passes (config_text_of document))

unless_placed : (config : Configuration) (refusal : Option RefusalData) → IfSome refusal (λ refusal. refusal.places ≢ []) → IfErr (unless_refused config refusal) (λ refusal. refusal.places ≢ [])
unless_placed config None h = tt
unless_placed config (Some refusal) h = h

document_placed : (document : Option Data) → IfErr (read_of_document document) (λ refusal. refusal.places ≢ [])
document_placed None = λ e. absurd cc
document_placed (Some document) = unless_placed (configuration_of (config_text_of document)) (refusal_of document) (value_placed document)

is_placed : (bytes : List ℕ) (refusal : RefusalData) → Err refusal ≡ read_of bytes → refusal.places ≢ []
unfolding read_of
is_placed bytes refusal is = subst (λ (answer : Result Configuration RefusalData). IfErr answer (λ refusal. refusal.places ≢ [])) (sym is) (document_placed (document_of bytes))

pub answer_placed : (bytes : List ℕ) (answer : Result Configuration RefusalData) → answer ≡ read_of bytes → IfErr answer (λ refusal. refusal.fault ≢ OutOfMemory → refusal.places ≢ [])
answer_placed bytes (Ok config) is = tt
answer_placed bytes (Err refusal) is = λ ran. is_placed bytes refusal is
