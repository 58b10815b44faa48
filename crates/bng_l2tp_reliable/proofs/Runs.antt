-- What holds of two ends holds after every run.
use Rattle.std.proofs.Common.{ℕ, ◌<◌, length, List, [], ◌∷◌}
use Rattle.bng_l2tp_reliable.specs.World.{World, End, Act, Event, SetsWindow, Sends, LetsOut, SendsAgain, Acknowledges, IsDue, Hears, AtLeft, AtRight, acts, happens, run, start, exchange, acknowledged_of, IsRecent, ArriveRecently, IsReliable}
use Rattle.bng_l2tp_reliable.proofs.Flows.{Both, turned, new, reliable}
use Rattle.bng_l2tp_reliable.proofs.Acts.{sets_window, sends, lets_out, sends_again, acknowledges, is_due}
use Rattle.bng_l2tp_reliable.proofs.Hearing.{heard}
use Rattle.bng_l2tp_reliable.proofs.Progress.{acknowledged_more}

after_act : (e other : End) (act : Act) → IsRecent e other act → Both e other → Both (acts e other act) other
after_act e other (SetsWindow window) recent h = sets_window e other window h
after_act e other (Sends message moment) recent h = sends e other message moment h
after_act e other LetsOut recent h = lets_out e other h
after_act e other (SendsAgain place) recent h = sends_again e other place h
after_act e other Acknowledges recent h = acknowledges e other h
after_act e other (IsDue moment) recent h = is_due e other moment h
after_act e other (Hears which moment) recent h = heard e other which moment recent h

after_run : (w : World) (events : List Event) → ArriveRecently w events → Both w.left w.right → Both (run w events).left (run w events).right
after_run w [] recent h = h
after_run w (AtLeft act ∷ events) recent h = after_run (happens w (AtLeft act)) events recent.1 (after_act w.left w.right act recent.0 h)
after_run w (AtRight act ∷ events) recent h =
    after_run (happens w (AtRight act)) events recent.1 (turned _ _ (after_act w.right w.left act recent.0 (turned _ _ h)))

-- after every run from the start
module _ (events : List Event) (window window' moment moment' : ℕ) (recent : ArriveRecently (start window window' moment moment') events) where
  abbrev w : World
  w = run (start window window' moment moment') events

  both : Both w.left w.right
  both = after_run (start window window' moment moment') events recent (record { there = new window window' moment moment'; back = new window' window moment' moment })

  pub to_right : IsReliable w.left w.right
  to_right = reliable _ _ both.there

  pub to_left : IsReliable w.right w.left
  to_left = reliable _ _ both.back

  pub more_to_right : (arrived arrived' : ℕ) → 0 < length w.left.channel.sends → length (acknowledged_of w.left) < length (acknowledged_of (run w (exchange AtLeft AtRight w.left w.right arrived arrived')).left)
  more_to_right arrived arrived' flying = acknowledged_more w.left w.right arrived arrived' both flying

  pub more_to_left : (arrived arrived' : ℕ) → 0 < length w.right.channel.sends → length (acknowledged_of w.right) < length (acknowledged_of (run w (exchange AtRight AtLeft w.right w.left arrived arrived')).right)
  more_to_left arrived arrived' flying = acknowledged_more w.right w.left arrived arrived' (turned _ _ both) flying
