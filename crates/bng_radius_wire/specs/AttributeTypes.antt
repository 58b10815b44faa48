-- Types of RADIUS attributes.
use Rattle.std.specs.Prelude.{ℕ}

-- RFC 2865 section 5.1
abbrev pub user_name : ℕ
user_name = 1

-- RFC 2865 section 5.2
abbrev pub user_password : ℕ
user_password = 2

-- RFC 2865 section 5.3
abbrev pub chap_password : ℕ
chap_password = 3

-- RFC 2865 section 5.4
abbrev pub nas_ip_address : ℕ
nas_ip_address = 4

-- RFC 2865 section 5.5
abbrev pub nas_port : ℕ
nas_port = 5

-- RFC 2865 section 5.6
abbrev pub service_type : ℕ
service_type = 6

-- RFC 2865 section 5.7
abbrev pub framed_protocol : ℕ
framed_protocol = 7

-- RFC 2865 section 5.8
abbrev pub framed_ip_address : ℕ
framed_ip_address = 8

-- RFC 2865 section 5.11
abbrev pub filter_id : ℕ
filter_id = 11

-- RFC 2865 section 5.18
abbrev pub reply_message : ℕ
reply_message = 18

-- RFC 2865 section 5.24
abbrev pub state : ℕ
state = 24

-- RFC 2865 section 5.25
abbrev pub class : ℕ
class = 25

-- RFC 2865 section 5.27
abbrev pub session_timeout : ℕ
session_timeout = 27

-- RFC 2865 section 5.28
abbrev pub idle_timeout : ℕ
idle_timeout = 28

-- RFC 2865 section 5.31
abbrev pub calling_station_id : ℕ
calling_station_id = 31

-- RFC 2865 section 5.32
abbrev pub nas_identifier : ℕ
nas_identifier = 32

-- RFC 2865 section 5.33
abbrev pub proxy_state : ℕ
proxy_state = 33

-- RFC 2865 section 5.40
abbrev pub chap_challenge : ℕ
chap_challenge = 60

-- RFC 2865 section 5.41
abbrev pub nas_port_type : ℕ
nas_port_type = 61

-- RFC 2866 section 5.1
abbrev pub acct_status_type : ℕ
acct_status_type = 40

-- RFC 2866 section 5.3
abbrev pub acct_input_octets : ℕ
acct_input_octets = 42

-- RFC 2866 section 5.4
abbrev pub acct_output_octets : ℕ
acct_output_octets = 43

-- RFC 2866 section 5.5
abbrev pub acct_session_id : ℕ
acct_session_id = 44

-- RFC 2866 section 5.7
abbrev pub acct_session_time : ℕ
acct_session_time = 46

-- RFC 2866 section 5.8
abbrev pub acct_input_packets : ℕ
acct_input_packets = 47

-- RFC 2866 section 5.9
abbrev pub acct_output_packets : ℕ
acct_output_packets = 48

-- RFC 2866 section 5.10
abbrev pub acct_terminate_cause : ℕ
acct_terminate_cause = 49

-- RFC 2869 section 5.1
abbrev pub acct_input_gigawords : ℕ
acct_input_gigawords = 52

-- RFC 2869 section 5.2
abbrev pub acct_output_gigawords : ℕ
acct_output_gigawords = 53

-- RFC 2869 section 5.3
abbrev pub event_timestamp : ℕ
event_timestamp = 55

-- RFC 2869 section 5.14
abbrev pub message_authenticator : ℕ
message_authenticator = 80

-- RFC 2869 section 5.16
abbrev pub acct_interim_interval : ℕ
acct_interim_interval = 85

-- RFC 2869 section 5.17
abbrev pub nas_port_id : ℕ
nas_port_id = 87

-- RFC 2869 section 5.18
abbrev pub framed_pool : ℕ
framed_pool = 88

-- RFC 5176 section 3.5
abbrev pub error_cause : ℕ
error_cause = 101
