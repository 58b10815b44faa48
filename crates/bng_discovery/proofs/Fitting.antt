-- The tags of each frame that is sent fit.
use Rattle.std.proofs.Common.{◌≡◌, ℕ, ◌<◌, ◌≤◌, ◌+◌, ◌==◌, true, false, cond, Some, List, [], ◌∷◌, ◌++◌, length, take, get_or, option_to_list, find, sym, subst, ap, arith, length-append}
use Rattle.std.specs.List.{All, AllByRecursion}
use Rattle.std.proofs.lemmas.List.Elements.{All-from_recursion}
use Rattle.bng_base.specs.declared.address.Mac.{Mac}
use Rattle.bng_base.specs.PppoeGrammar.{PppoeTag, TagFits, tag_text, tags_text}
use Rattle.bng_pppoe_wire.specs.declared.view.Tag.{Tag}
use Rattle.bng_pppoe_wire.specs.declared.kind.TheConstants.{SERVICE_NAME, AC_NAME, HOST_UNIQ, AC_COOKIE, RELAY_SESSION_ID}
use Rattle.bng_pppoe_wire.specs.View.{tag_of, tags_of}
use Rattle.bng_pppoe_wire.proofs.TagSteps.{blank, text_more}
use Rattle.bng_discovery.specs.declared.port.PortRules.{PortRules}
use Rattle.bng_discovery.specs.declared.request.DiscoveryRequest.{DiscoveryRequest}
use Rattle.bng_discovery.specs.declared.answers.ErrorTag.{ErrorTag}
use Rattle.bng_discovery.specs.declared.answers.ErrorTag.TheVariants.{ServiceNameError, AcSystemError}
use Rattle.bng_discovery.specs.Request.{first_tag, value_of, asked_service, cookie_of, IsRequest}
use Rattle.bng_discovery.specs.Reply.{tag, asked_name, repeated, others, offer_tags, confirm_tags, refuse_tags, error_kind}

over_tags : (os : List Tag) → AllByRecursion TagFits (tags_of os) → AllByRecursion (λ o. TagFits (tag_of o)) os
over_tags [] h = tt
over_tags (o ∷ os) h = (h.0, over_tags os h.1)

-- tags that say what fits fit one by one
pub all_fit : (os : List Tag) (ts : List PppoeTag) → tags_of os ≡ ts → AllByRecursion TagFits ts → All (λ o. TagFits (tag_of o)) os
all_fit os ts e h = All-from_recursion (λ (o : Tag). TagFits (tag_of o)) os (over_tags os (subst (λ (x : List PppoeTag). AllByRecursion TagFits x) (sym e) h))

pub fit-append : (xs ys : List PppoeTag) → AllByRecursion TagFits xs → AllByRecursion TagFits ys → AllByRecursion TagFits (xs ++ ys)
fit-append [] ys h k = k
fit-append (x ∷ xs) ys h k = (h.0, fit-append xs ys h.1 k)

repeated_fits : (kind : ℕ) (ts : List PppoeTag) → AllByRecursion TagFits ts → AllByRecursion TagFits (repeated kind ts)
repeated_fits kind [] h = tt
repeated_fits kind (t ∷ ts) h =
    elim (t.kind == kind) as (λ b. AllByRecursion TagFits (option_to_list (cond b (Some t) (find (λ (x : PppoeTag). x.kind == kind) ts)))) [ true ↦ (h.0, tt) | false ↦ repeated_fits kind ts h.1 ]

value_fits : (kind : ℕ) (ts : List PppoeTag) → AllByRecursion TagFits ts → length (value_of (first_tag kind ts)) < 65536
value_fits kind [] h = omega arith
value_fits kind (t ∷ ts) h =
    elim (t.kind == kind) as (λ b. length (value_of (cond b (Some t) (find (λ (x : PppoeTag). x.kind == kind) ts))) < 65536) [ true ↦ h.0.size | false ↦ value_fits kind ts h.1 ]

pub tag_fits : (kind : ℕ) (value : List ℕ) → kind < 65536 → 0 < kind → length value < 65536 → TagFits (tag kind value)
tag_fits kind value below above size = record { kind = below; not_end = above; size = size }

asked_fits : (ts : List PppoeTag) → AllByRecursion TagFits ts → TagFits (asked_name ts)
asked_fits ts h = tag_fits SERVICE_NAME (asked_service ts) (omega arith) (omega arith) (value_fits SERVICE_NAME ts h)

error_fits : (error : ErrorTag) → TagFits (tag (error_kind error) [])
error_fits ServiceNameError = tag_fits (error_kind ServiceNameError) [] (omega arith) (omega arith) (omega arith)
error_fits AcSystemError = tag_fits (error_kind AcSystemError) [] (omega arith) (omega arith) (omega arith)

after_fits : (front : List PppoeTag) (ts : List PppoeTag) → AllByRecursion TagFits front → AllByRecursion TagFits ts → AllByRecursion TagFits (front ++ repeated HOST_UNIQ ts ++ repeated RELAY_SESSION_ID ts)
after_fits front ts f h =
    fit-append (front ++ repeated HOST_UNIQ ts) (repeated RELAY_SESSION_ID ts) (fit-append front (repeated HOST_UNIQ ts) f (repeated_fits HOST_UNIQ ts h)) (repeated_fits RELAY_SESSION_ID ts h)

pub confirm_fit : (ts : List PppoeTag) → AllByRecursion TagFits ts → AllByRecursion TagFits (confirm_tags ts)
confirm_fit ts h = after_fits (asked_name ts ∷ []) ts (asked_fits ts h, tt) h

pub refuse_fit : (error : ErrorTag) (ts : List PppoeTag) → AllByRecursion TagFits ts → AllByRecursion TagFits (refuse_tags error ts)
refuse_fit error ts h = after_fits (asked_name ts ∷ tag (error_kind error) [] ∷ []) ts (asked_fits ts h, (error_fits error, tt)) h

pub offer_fit : (port : PortRules) (host : Mac) (ts : List PppoeTag) → AllByRecursion TagFits ts → length port.name.items ≤ 64 → length (cookie_of port host) < 65536
    → AllByRecursion TagFits (others (asked_service ts) port.services.items) → AllByRecursion TagFits (offer_tags port host ts)
offer_fit port host ts h name cookie beside =
    let front = tag AC_NAME port.name.items ∷ asked_name ts ∷ others (asked_service ts) port.services.items in
    let own = tag_fits AC_NAME port.name.items (omega arith) (omega arith) (omega (arith, name)) in
    let made = tag_fits AC_COOKIE (cookie_of port host) (omega arith) (omega arith) cookie in
    let first : AllByRecursion TagFits front = (own, (asked_fits ts h, beside)) in
    fit-append (front ++ repeated HOST_UNIQ ts ++ tag AC_COOKIE (cookie_of port host) ∷ []) (repeated RELAY_SESSION_ID ts)
    (fit-append (front ++ repeated HOST_UNIQ ts) (tag AC_COOKIE (cookie_of port host) ∷ []) (fit-append front (repeated HOST_UNIQ ts) first (repeated_fits HOST_UNIQ ts h)) (made, tt))
    (repeated_fits RELAY_SESSION_ID ts h)

pub offered_fit : (port : PortRules) (host : Mac) (ts : List PppoeTag) (r : DiscoveryRequest) (cookie : List ℕ) → IsRequest r ts → AllByRecursion TagFits ts → length port.name.items ≤ 64
    → cookie ≡ cookie_of port host → length cookie ≡ 16 → AllByRecursion TagFits (others r.service.now port.services.items) → AllByRecursion TagFits (offer_tags port host ts)
offered_fit port host ts r cookie is h name made sixteen beside =
    offer_fit port host ts h name (omega (arith, ap length made, sixteen)) (subst (λ (s : List ℕ). AllByRecursion TagFits (others s port.services.items)) is.service beside)

-- one tag more makes the text longer by its own
pub longer : (os : List Tag) (i : ℕ) → i < length os → length (tags_text (tags_of (take (i + 1) os))) ≡ length (tags_text (tags_of (take i os))) + (4 + length (get_or os i blank).value.now)
longer os i lt = omega (arith, ap length (text_more os i blank lt), length-append (tags_text (tags_of (take i os))) (tag_text (tag_of (get_or os i blank))))
