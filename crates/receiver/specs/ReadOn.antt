-- Laws of reading on: the cursor has less left with every packet and at the tail, so reading on ends; and what stays as it was.
use Rattle.std.specs.Prelude.{ℕ, ◌*◌, ◌≤◌, ◌≡◌, List, length}
use Rattle.state.specs.State.{State}
use Rattle.receiver.specs.Next.{NextOut}

-- what a packet leaves as it was
pub record Kept (st after : State) : Type 0 where
  pub config : after.config ≡ st.config
  pub frame : after.frame ≡ st.frame
  pub owed : after.owed ≡ st.owed
  pub held : after.held ≡ st.held
  pub cursor : after.cursor ≡ st.cursor

-- what next leaves as it was: the configuration, the frame, and the length of collecting memory
pub record Calm (st : State) (c : List ℕ) (o : NextOut) : Type 0 where
  pub config : o.0.state.config ≡ st.config
  pub frame : o.0.state.frame ≡ st.frame
  pub size : length o.1 ≡ length c

-- collecting memory has room for every packet_id
abbrev pub Ample : State → List ℕ → Type 0
Ample st c = st.config.watch.n * st.config.rules.limit ≤ length c
