-- The transition table of the option negotiation automaton, by RFC 1661 section 4.1.
--
-- A row is a state, an event, the actions in their order, and the state after them. It stands here row by row as the
-- standard prints it from left to right, Initial to Opened. Where the standard prints a dash, the event should not come:
-- then nothing is done, and the state stays. The notes r (restart), p (passive) and x (crossed connection) of the
-- standard have no effect here.
use Rattle.std.specs.Prelude.{ℕ, List, [], ◌∷◌}
use Rattle.std.specs.List.{flat_map}
use Rattle.bng_automaton.specs.declared.state.State.{State}
use Rattle.bng_automaton.specs.declared.state.State.TheVariants.{Initial, Starting, Closed, Stopped, Closing, Stopping, ReqSent, AckRcvd, AckSent, Opened}
use Rattle.bng_automaton.specs.declared.event.Event.{Event}
use Rattle.bng_automaton.specs.declared.event.Event.TheVariants.{Up, Down, Open, Close, ToPlus, ToMinus, RcrPlus, RcrMinus, Rca, Rcn, Rtr, Rta, Ruc, RxjPlus, RxjMinus, Rxr}
use Rattle.bng_automaton.specs.declared.action.Action.{Action}
use Rattle.bng_automaton.specs.declared.action.Action.TheVariants.{Tlu, Tld, Tls, Tlf, Irc, Zrc, Scr, Sca, Scn, Str, Sta, Scj, Ser}

pub record Transition : Type 0 where
  pub state : State
  pub event : Event
  pub actions : List Action
  pub next : State

-- the number of a state in the standard
abbrev pub column : State → ℕ
column Initial = 0
column Starting = 1
column Closed = 2
column Stopped = 3
column Closing = 4
column Stopping = 5
column ReqSent = 6
column AckRcvd = 7
column AckSent = 8
column Opened = 9

abbrev pub row : State → Event → List Action → State → Transition
row state event actions next = record { state = state; event = event; actions = actions; next = next }

-- Up: the lower layer is ready
abbrev pub on_up : List Transition
on_up =
    row Initial Up [] Closed ∷
    row Starting Up (Irc ∷ Scr ∷ []) ReqSent ∷
    row Closed Up [] Closed ∷
    row Stopped Up [] Stopped ∷
    row Closing Up [] Closing ∷
    row Stopping Up [] Stopping ∷
    row ReqSent Up [] ReqSent ∷
    row AckRcvd Up [] AckRcvd ∷
    row AckSent Up [] AckSent ∷
    row Opened Up [] Opened ∷ []

-- Down: the lower layer is no longer ready
abbrev pub on_down : List Transition
on_down =
    row Initial Down [] Initial ∷
    row Starting Down [] Starting ∷
    row Closed Down [] Initial ∷
    row Stopped Down (Tls ∷ []) Starting ∷
    row Closing Down [] Initial ∷
    row Stopping Down [] Starting ∷
    row ReqSent Down [] Starting ∷
    row AckRcvd Down [] Starting ∷
    row AckSent Down [] Starting ∷
    row Opened Down (Tld ∷ []) Starting ∷ []

-- Open: the link may be opened
abbrev pub on_open : List Transition
on_open =
    row Initial Open (Tls ∷ []) Starting ∷
    row Starting Open [] Starting ∷
    row Closed Open (Irc ∷ Scr ∷ []) ReqSent ∷
    row Stopped Open [] Stopped ∷
    row Closing Open [] Stopping ∷
    row Stopping Open [] Stopping ∷
    row ReqSent Open [] ReqSent ∷
    row AckRcvd Open [] AckRcvd ∷
    row AckSent Open [] AckSent ∷
    row Opened Open [] Opened ∷ []

-- Close: the link is to be closed
abbrev pub on_close : List Transition
on_close =
    row Initial Close [] Initial ∷
    row Starting Close (Tlf ∷ []) Initial ∷
    row Closed Close [] Closed ∷
    row Stopped Close [] Closed ∷
    row Closing Close [] Closing ∷
    row Stopping Close [] Closing ∷
    row ReqSent Close (Irc ∷ Str ∷ []) Closing ∷
    row AckRcvd Close (Irc ∷ Str ∷ []) Closing ∷
    row AckSent Close (Irc ∷ Str ∷ []) Closing ∷
    row Opened Close (Tld ∷ Irc ∷ Str ∷ []) Closing ∷ []

-- TO+: a timeout with the restart counter above 0
abbrev pub on_to_plus : List Transition
on_to_plus =
    row Initial ToPlus [] Initial ∷
    row Starting ToPlus [] Starting ∷
    row Closed ToPlus [] Closed ∷
    row Stopped ToPlus [] Stopped ∷
    row Closing ToPlus (Str ∷ []) Closing ∷
    row Stopping ToPlus (Str ∷ []) Stopping ∷
    row ReqSent ToPlus (Scr ∷ []) ReqSent ∷
    row AckRcvd ToPlus (Scr ∷ []) ReqSent ∷
    row AckSent ToPlus (Scr ∷ []) AckSent ∷
    row Opened ToPlus [] Opened ∷ []

-- TO-: a timeout with the restart counter at 0
abbrev pub on_to_minus : List Transition
on_to_minus =
    row Initial ToMinus [] Initial ∷
    row Starting ToMinus [] Starting ∷
    row Closed ToMinus [] Closed ∷
    row Stopped ToMinus [] Stopped ∷
    row Closing ToMinus (Tlf ∷ []) Closed ∷
    row Stopping ToMinus (Tlf ∷ []) Stopped ∷
    row ReqSent ToMinus (Tlf ∷ []) Stopped ∷
    row AckRcvd ToMinus (Tlf ∷ []) Stopped ∷
    row AckSent ToMinus (Tlf ∷ []) Stopped ∷
    row Opened ToMinus [] Opened ∷ []

-- RCR+: a Configure-Request that is acknowledged
abbrev pub on_rcr_plus : List Transition
on_rcr_plus =
    row Initial RcrPlus [] Initial ∷
    row Starting RcrPlus [] Starting ∷
    row Closed RcrPlus (Sta ∷ []) Closed ∷
    row Stopped RcrPlus (Irc ∷ Scr ∷ Sca ∷ []) AckSent ∷
    row Closing RcrPlus [] Closing ∷
    row Stopping RcrPlus [] Stopping ∷
    row ReqSent RcrPlus (Sca ∷ []) AckSent ∷
    row AckRcvd RcrPlus (Sca ∷ Tlu ∷ []) Opened ∷
    row AckSent RcrPlus (Sca ∷ []) AckSent ∷
    row Opened RcrPlus (Tld ∷ Scr ∷ Sca ∷ []) AckSent ∷ []

-- RCR-: a Configure-Request that is naked or rejected
abbrev pub on_rcr_minus : List Transition
on_rcr_minus =
    row Initial RcrMinus [] Initial ∷
    row Starting RcrMinus [] Starting ∷
    row Closed RcrMinus (Sta ∷ []) Closed ∷
    row Stopped RcrMinus (Irc ∷ Scr ∷ Scn ∷ []) ReqSent ∷
    row Closing RcrMinus [] Closing ∷
    row Stopping RcrMinus [] Stopping ∷
    row ReqSent RcrMinus (Scn ∷ []) ReqSent ∷
    row AckRcvd RcrMinus (Scn ∷ []) AckRcvd ∷
    row AckSent RcrMinus (Scn ∷ []) ReqSent ∷
    row Opened RcrMinus (Tld ∷ Scr ∷ Scn ∷ []) ReqSent ∷ []

-- RCA: a Configure-Ack
abbrev pub on_rca : List Transition
on_rca =
    row Initial Rca [] Initial ∷
    row Starting Rca [] Starting ∷
    row Closed Rca (Sta ∷ []) Closed ∷
    row Stopped Rca (Sta ∷ []) Stopped ∷
    row Closing Rca [] Closing ∷
    row Stopping Rca [] Stopping ∷
    row ReqSent Rca (Irc ∷ []) AckRcvd ∷
    row AckRcvd Rca (Scr ∷ []) ReqSent ∷
    row AckSent Rca (Irc ∷ Tlu ∷ []) Opened ∷
    row Opened Rca (Tld ∷ Scr ∷ []) ReqSent ∷ []

-- RCN: a Configure-Nak or Configure-Reject
abbrev pub on_rcn : List Transition
on_rcn =
    row Initial Rcn [] Initial ∷
    row Starting Rcn [] Starting ∷
    row Closed Rcn (Sta ∷ []) Closed ∷
    row Stopped Rcn (Sta ∷ []) Stopped ∷
    row Closing Rcn [] Closing ∷
    row Stopping Rcn [] Stopping ∷
    row ReqSent Rcn (Irc ∷ Scr ∷ []) ReqSent ∷
    row AckRcvd Rcn (Scr ∷ []) ReqSent ∷
    row AckSent Rcn (Irc ∷ Scr ∷ []) AckSent ∷
    row Opened Rcn (Tld ∷ Scr ∷ []) ReqSent ∷ []

-- RTR: a Terminate-Request
abbrev pub on_rtr : List Transition
on_rtr =
    row Initial Rtr [] Initial ∷
    row Starting Rtr [] Starting ∷
    row Closed Rtr (Sta ∷ []) Closed ∷
    row Stopped Rtr (Sta ∷ []) Stopped ∷
    row Closing Rtr (Sta ∷ []) Closing ∷
    row Stopping Rtr (Sta ∷ []) Stopping ∷
    row ReqSent Rtr (Sta ∷ []) ReqSent ∷
    row AckRcvd Rtr (Sta ∷ []) ReqSent ∷
    row AckSent Rtr (Sta ∷ []) ReqSent ∷
    row Opened Rtr (Tld ∷ Zrc ∷ Sta ∷ []) Stopping ∷ []

-- RTA: a Terminate-Ack
abbrev pub on_rta : List Transition
on_rta =
    row Initial Rta [] Initial ∷
    row Starting Rta [] Starting ∷
    row Closed Rta [] Closed ∷
    row Stopped Rta [] Stopped ∷
    row Closing Rta (Tlf ∷ []) Closed ∷
    row Stopping Rta (Tlf ∷ []) Stopped ∷
    row ReqSent Rta [] ReqSent ∷
    row AckRcvd Rta [] ReqSent ∷
    row AckSent Rta [] AckSent ∷
    row Opened Rta (Tld ∷ Scr ∷ []) ReqSent ∷ []

-- RUC: an unknown code
abbrev pub on_ruc : List Transition
on_ruc =
    row Initial Ruc [] Initial ∷
    row Starting Ruc [] Starting ∷
    row Closed Ruc (Scj ∷ []) Closed ∷
    row Stopped Ruc (Scj ∷ []) Stopped ∷
    row Closing Ruc (Scj ∷ []) Closing ∷
    row Stopping Ruc (Scj ∷ []) Stopping ∷
    row ReqSent Ruc (Scj ∷ []) ReqSent ∷
    row AckRcvd Ruc (Scj ∷ []) AckRcvd ∷
    row AckSent Ruc (Scj ∷ []) AckSent ∷
    row Opened Ruc (Scj ∷ []) Opened ∷ []

-- RXJ+: a Code-Reject or Protocol-Reject that is permitted
abbrev pub on_rxj_plus : List Transition
on_rxj_plus =
    row Initial RxjPlus [] Initial ∷
    row Starting RxjPlus [] Starting ∷
    row Closed RxjPlus [] Closed ∷
    row Stopped RxjPlus [] Stopped ∷
    row Closing RxjPlus [] Closing ∷
    row Stopping RxjPlus [] Stopping ∷
    row ReqSent RxjPlus [] ReqSent ∷
    row AckRcvd RxjPlus [] ReqSent ∷
    row AckSent RxjPlus [] AckSent ∷
    row Opened RxjPlus [] Opened ∷ []

-- RXJ-: a Code-Reject or Protocol-Reject that is catastrophic
abbrev pub on_rxj_minus : List Transition
on_rxj_minus =
    row Initial RxjMinus [] Initial ∷
    row Starting RxjMinus [] Starting ∷
    row Closed RxjMinus (Tlf ∷ []) Closed ∷
    row Stopped RxjMinus (Tlf ∷ []) Stopped ∷
    row Closing RxjMinus (Tlf ∷ []) Closed ∷
    row Stopping RxjMinus (Tlf ∷ []) Stopped ∷
    row ReqSent RxjMinus (Tlf ∷ []) Stopped ∷
    row AckRcvd RxjMinus (Tlf ∷ []) Stopped ∷
    row AckSent RxjMinus (Tlf ∷ []) Stopped ∷
    row Opened RxjMinus (Tld ∷ Irc ∷ Str ∷ []) Stopping ∷ []

-- RXR: an Echo-Request, Echo-Reply or Discard-Request
abbrev pub on_rxr : List Transition
on_rxr =
    row Initial Rxr [] Initial ∷
    row Starting Rxr [] Starting ∷
    row Closed Rxr [] Closed ∷
    row Stopped Rxr [] Stopped ∷
    row Closing Rxr [] Closing ∷
    row Stopping Rxr [] Stopping ∷
    row ReqSent Rxr [] ReqSent ∷
    row AckRcvd Rxr [] AckRcvd ∷
    row AckSent Rxr [] AckSent ∷
    row Opened Rxr (Ser ∷ []) Opened ∷ []

-- the rows of an event
abbrev pub rows : Event → List Transition
rows Up = on_up
rows Down = on_down
rows Open = on_open
rows Close = on_close
rows ToPlus = on_to_plus
rows ToMinus = on_to_minus
rows RcrPlus = on_rcr_plus
rows RcrMinus = on_rcr_minus
rows Rca = on_rca
rows Rcn = on_rcn
rows Rtr = on_rtr
rows Rta = on_rta
rows Ruc = on_ruc
rows RxjPlus = on_rxj_plus
rows RxjMinus = on_rxj_minus
rows Rxr = on_rxr

abbrev pub events : List Event
events = Up ∷ Down ∷ Open ∷ Close ∷ ToPlus ∷ ToMinus ∷ RcrPlus ∷ RcrMinus ∷ Rca ∷ Rcn ∷ Rtr ∷ Rta ∷ Ruc ∷ RxjPlus ∷ RxjMinus ∷ Rxr ∷ []

-- the whole table
unfoldable pub table : List Transition
table = flat_map rows events
