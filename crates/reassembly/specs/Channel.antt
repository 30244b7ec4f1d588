-- The state of one watched packet_id: unheard, waiting, idle or open, with the last psn heard.
use Rattle.std.specs.Prelude.{◌+◌, ◌%◌, ◌^◌, Bool, true, false, not, ◌&&◌, ◌==◌}
use Rattle.mmtp.specs.declared.header.Psn.{Psn}
use Rattle.reassembly.specs.declared.channel.Phase.{Phase}
use Rattle.reassembly.specs.declared.channel.Phase.TheVariants.{Unheard, Waiting, Idle, Open}
use Rattle.reassembly.specs.declared.channel.Channel.{Channel}

-- the expected next number: "the last heard plus one, modulo 4,294,967,296"
unfoldable pub next_psn : Psn → Psn
next_psn p = record { 0 = (p.0 + 1) % 2 ^ 32 }

-- any state but unheard
unfoldable pub heard : Phase → Bool
heard Unheard = false
heard Waiting = true
heard Idle = true
heard Open = true

-- (a) "If heard and psn isn't the last heard plus one"
unfoldable pub gap : Channel → Psn → Bool
gap ch psn = heard ch.phase && not (psn.0 == (next_psn ch.last).0)

unfoldable pub unheard : Channel
unheard =
    record {
      phase = Unheard;
      last = record { 0 = 0 };
      current = record {
        unit = record {
          packet_id = 0;
          kind = 0;
          psn = record { 0 = 0 };
          mpu = 0;
          fields = record { movie_fragment = 0; sample = 0; offset = 0; priority = 0; dependency = 0; item = 0 };
        };
        counter = 0;
        len = 0;
      };
    }
