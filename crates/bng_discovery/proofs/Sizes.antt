-- No PADS is longer than a PADR with the right cookie.
use Rattle.std.proofs.Common.{◌≡◌, ℕ, ◌+◌, ◌≤◌, ◌==◌, true, false, cond, Option, None, Some, List, [], ◌∷◌, ◌++◌, length, option_to_list, sym, ap, ◌∙◌, arith, length-append}
use Rattle.std.specs.Prelude.{IsTrue}
use Rattle.std.specs.Cmp.Lexicographic.{same_text}
use Rattle.std.proofs.lemmas.Bool.Decides.{nat_tests}
use Rattle.std.proofs.lemmas.List.Concat.{flat_map-append}
use Rattle.md5.proofs.StandardFacts.{length-md5}
use Rattle.md5.specs.Md5.{md5}
use Rattle.bng_base.specs.declared.address.Mac.{Mac}
use Rattle.bng_base.specs.PppoeGrammar.{PppoeTag, AreTags, tag_text, tags_text}
use Rattle.bng_digest.specs.Authentication.{hmac_md5, keyed_block}
use Rattle.bng_pppoe_wire.specs.declared.kind.TheConstants.{SERVICE_NAME, HOST_UNIQ, AC_COOKIE, RELAY_SESSION_ID}
use Rattle.bng_discovery.specs.declared.port.PortRules.{PortRules}
use Rattle.bng_discovery.specs.declared.answers.ErrorTag.{ErrorTag}
use Rattle.bng_discovery.specs.Request.{first_tag, value_of, has_value, has_cookie, cookie_of}
use Rattle.bng_discovery.specs.Reply.{tag, asked_name, repeated, confirm_tags, refuse_tags, error_kind}

-- the octets of a tag that is repeated
abbrev size : ℕ → List PppoeTag → ℕ
size kind ts = length (tags_text (repeated kind ts))

abbrev part : ℕ → PppoeTag → ℕ
part kind t = cond (t.kind == kind) (length (tag_text t)) 0

size-cons : (kind : ℕ) (t : PppoeTag) (ts : List PppoeTag) → size kind (t ∷ ts) ≤ part kind t + size kind ts
size-cons kind t ts =
    elim (t.kind == kind) as (λ b. length (tags_text (option_to_list (cond b (Some t) (first_tag kind ts)))) ≤ cond b (length (tag_text t)) 0 + size kind ts)
    [ true ↦ omega (arith, length-append (tag_text t) []) | false ↦ omega arith ]

-- a tag is of one of four types, if of any
parts : (k n : ℕ) → cond (k == 257) n 0 + cond (k == 259) n 0 + cond (k == 260) n 0 + cond (k == 272) n 0 ≤ n
parts k n = grind (arith, nat_tests)

four : (ts : List PppoeTag) → size SERVICE_NAME ts + size HOST_UNIQ ts + size AC_COOKIE ts + size RELAY_SESSION_ID ts ≤ length (tags_text ts)
four [] = omega arith
four (t ∷ ts) =
    omega (arith, four ts, size-cons SERVICE_NAME t ts, size-cons HOST_UNIQ t ts, size-cons AC_COOKIE t ts, size-cons RELAY_SESSION_ID t ts, parts t.kind (length (tag_text t)), length-append (tag_text t) (tags_text ts))

cookie-length : (port : PortRules) (host : Mac) → length (cookie_of port host) ≡ 16
unfolding hmac_md5
cookie-length port host = length-md5 (keyed_block port.key 0x5c ++ md5 (keyed_block port.key 0x36 ++ port.port ∷ host.0))

held : (value : List ℕ) (found : Option PppoeTag) → IsTrue (has_value value found) → length (tags_text (option_to_list found)) ≡ 4 + length value
held value None h = absurd cc
held value (Some t) h = omega (arith, ap length (same_text t.value value (sym h)), length-append (tag_text t) [])

named : (found : Option PppoeTag) → length (tags_text (tag SERVICE_NAME (value_of found) ∷ [])) ≤ 4 + length (tags_text (option_to_list found))
named None = omega arith
named (Some t) = omega (arith, length-append (tag_text t) [], length-append (tag_text (tag SERVICE_NAME t.value)) [])

text-append : (xs ys : List PppoeTag) → length (tags_text (xs ++ ys)) ≡ length (tags_text xs) + length (tags_text ys)
text-append xs ys = ap length (flat_map-append tag_text xs ys) ∙ length-append (tags_text xs) (tags_text ys)

after_size : (front ts : List PppoeTag) → length (tags_text (front ++ repeated HOST_UNIQ ts ++ repeated RELAY_SESSION_ID ts)) ≡ length (tags_text front) + size HOST_UNIQ ts + size RELAY_SESSION_ID ts
after_size front ts = omega (arith, text-append (front ++ repeated HOST_UNIQ ts) (repeated RELAY_SESSION_ID ts), text-append front (repeated HOST_UNIQ ts))

-- what is left of a request with a cookie beside the tags that are repeated
room : (port : PortRules) (host : Mac) (ts : List PppoeTag) (payload : List ℕ) → AreTags ts payload → IsTrue (has_cookie port host ts)
    → size SERVICE_NAME ts + size HOST_UNIQ ts + 20 + size RELAY_SESSION_ID ts ≤ length payload
room port host ts payload are cookie =
    omega (arith, four ts, held (cookie_of port host) (first_tag AC_COOKIE ts) cookie, cookie-length port host, ap length are.spelled, length-append (tags_text ts) are.rest)

pub confirm_short : (port : PortRules) (host : Mac) (ts : List PppoeTag) (payload : List ℕ) → AreTags ts payload → IsTrue (has_cookie port host ts)
    → length (tags_text (confirm_tags ts)) ≤ length payload
confirm_short port host ts payload are cookie =
    omega (arith, after_size (asked_name ts ∷ []) ts, named (first_tag SERVICE_NAME ts), room port host ts payload are cookie)

pub refuse_short : (error : ErrorTag) (port : PortRules) (host : Mac) (ts : List PppoeTag) (payload : List ℕ) → AreTags ts payload → IsTrue (has_cookie port host ts)
    → length (tags_text (refuse_tags error ts)) ≤ length payload
refuse_short error port host ts payload are cookie =
    omega (arith, after_size (asked_name ts ∷ tag (error_kind error) [] ∷ []) ts, text-append (asked_name ts ∷ []) (tag (error_kind error) [] ∷ []), named (first_tag SERVICE_NAME ts), room port host ts payload are cookie)
